pub mod Domain
pub mod Scan
pub mod Scanned
pub mod Marks
pub mod Phases
pub mod Answer
pub mod Promise

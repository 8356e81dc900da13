pub mod Accepted
pub mod Search
pub mod Answer
pub mod Walk
pub mod State
pub mod Sketch
pub mod Promise

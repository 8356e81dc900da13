pub mod Segment
pub mod TwoLength
pub mod Promise

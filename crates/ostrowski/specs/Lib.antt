pub mod Digits
pub mod Answer
pub mod Promise

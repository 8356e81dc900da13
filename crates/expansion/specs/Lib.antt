pub mod Rows
pub mod Configurations
pub mod Reached
pub mod Answer
pub mod Promise

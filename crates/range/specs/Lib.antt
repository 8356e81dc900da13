pub mod Range
pub mod Promise

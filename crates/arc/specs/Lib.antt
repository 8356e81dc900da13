pub mod Arc
pub mod Promise

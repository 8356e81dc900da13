pub mod Memory
pub mod Promise

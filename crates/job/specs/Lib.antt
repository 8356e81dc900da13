pub mod Reading
pub mod Output
pub mod Promise

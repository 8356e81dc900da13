pub mod Parabola
pub mod Promise

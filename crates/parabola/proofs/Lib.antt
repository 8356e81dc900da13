mod Values
mod Bounds
mod Coverings
mod Centred
mod Parts
mod Lines
pub mod Laws
pub mod Promises

mod Products
mod Arcs
mod Refusals
mod Coverings
mod Points
pub mod Promises

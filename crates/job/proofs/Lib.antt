mod Reports
mod Outputs
mod Longest
mod Readings
mod Renderings
pub mod Promises

mod Writing
mod Residues
mod Division
mod Targets
mod Refusals
mod Answers
mod Taking
mod Dividing
pub mod Promises

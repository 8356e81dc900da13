mod Residues
mod TwoLength
mod Lengths
mod Least
mod Cutting
mod Positions
mod Periods
pub mod Laws
pub mod Promises

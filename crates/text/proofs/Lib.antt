mod Decimals
mod Writing
mod Names
mod Steps
mod Fields
mod Numbers
mod Lines
mod Ends
mod Digits
pub mod Laws
pub mod Promises

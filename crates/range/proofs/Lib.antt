mod Counting
mod Comparing
mod Cases
mod Places
pub mod Promises

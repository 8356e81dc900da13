mod Memory
pub mod Promises

mod Scanning
mod Parts
mod Answers
mod Numbers
mod Verdicts
pub mod Promises

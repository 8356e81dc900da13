mod Minimum
mod Advancing
mod Rows
mod Invariant
mod Steps
mod Walks
mod Stepping
mod Sketches
mod Answers
mod Showing
pub mod Laws
pub mod Promises

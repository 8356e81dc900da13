mod Unrolling
mod Recurrences
mod Length
mod RowLaws
mod Multiples
mod Drawing
mod Period
mod Regular
mod Fine
mod ConfigurationLaws
mod Reaching
mod Searches
mod Filling
mod Answers
pub mod Laws
pub mod Promises

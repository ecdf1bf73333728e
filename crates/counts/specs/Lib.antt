pub mod Counts
pub mod Promises

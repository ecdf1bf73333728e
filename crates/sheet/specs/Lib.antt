pub mod Answers
pub mod Promises
pub mod Sheet
pub mod Fixed

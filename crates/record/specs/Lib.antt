pub mod Record
pub mod Steps
pub mod Answers
pub mod Promises
pub mod Fixed

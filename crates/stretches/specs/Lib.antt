pub mod Answers
pub mod Promises
pub mod Steps
pub mod Stretches
pub mod Fixed

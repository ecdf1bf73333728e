pub mod Answers
pub mod Check
pub mod Promises
pub mod Steps
pub mod Table
pub mod Wings
pub mod Fixed

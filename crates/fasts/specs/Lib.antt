pub mod Fasts
pub mod Ahead
pub mod Steps
pub mod Answers
pub mod Promises
pub mod Fixed

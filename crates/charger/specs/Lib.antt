pub mod Charging
pub mod Answers
pub mod Promises
pub mod Fixed

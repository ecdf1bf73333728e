pub mod Check
pub mod Promises
pub mod Fixed

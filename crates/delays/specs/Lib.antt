pub mod Delays
pub mod Promises
pub mod Fixed

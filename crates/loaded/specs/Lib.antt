pub mod Promises
pub mod Rows
pub mod Walk
pub mod Fixed

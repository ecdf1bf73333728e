pub mod Signed
pub mod Calendar
pub mod Date
pub mod Good
pub mod Answers
pub mod Promises
pub mod Fixed

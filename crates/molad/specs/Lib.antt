pub mod Units
pub mod Years
pub mod Molad
pub mod Answers
pub mod Promises
pub mod Fixed

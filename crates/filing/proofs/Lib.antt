pub mod Answers
pub mod Enough
pub mod Fixed

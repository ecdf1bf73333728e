pub mod Line
pub mod Answers
pub mod Fixed

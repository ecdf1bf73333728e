pub mod Lines
pub mod Enough
pub mod Answers
pub mod Fixed

pub mod Rhodes
pub mod Answers
pub mod Fixed

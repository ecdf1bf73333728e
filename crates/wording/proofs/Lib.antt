pub mod Numbers
pub mod Enough
pub mod Answers
pub mod Fixed

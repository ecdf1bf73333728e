pub mod Answers
pub mod Together
pub mod Walks
pub mod Written
pub mod Fixed

pub mod Hours
pub mod Chosen
pub mod Answers
pub mod Fixed

pub mod Walked
pub mod Turns
pub mod Answers

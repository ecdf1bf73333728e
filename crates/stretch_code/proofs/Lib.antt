pub mod Answered
pub mod Answers
pub mod Named
pub mod Walked

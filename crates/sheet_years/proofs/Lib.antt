pub mod Answers
pub mod Listed
pub mod Pairs

pub mod Closed
pub mod Answers
pub mod InTurn
pub mod Fixed

pub mod Answered
pub mod Answers
pub mod Theorems
pub mod Walk
pub mod Year
pub mod Neighbours
pub mod Fixed

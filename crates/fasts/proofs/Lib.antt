pub mod Kept
pub mod Found
pub mod Chosen
pub mod Neighbours
pub mod Answers
pub mod Fixed

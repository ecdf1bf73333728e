pub mod Days
pub mod Told
pub mod Answers
pub mod Theorems
pub mod Fixed

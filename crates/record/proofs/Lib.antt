pub mod Told
pub mod Moves
pub mod Answers
pub mod Worked
pub mod Fixed

pub mod Answers
pub mod Numbers
pub mod Sizes
pub mod Standing
pub mod Fixed

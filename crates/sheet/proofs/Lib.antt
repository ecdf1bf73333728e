pub mod Sizes
pub mod Years
pub mod Pairs
pub mod ReadBack
pub mod Answers
pub mod Room
pub mod Fixed

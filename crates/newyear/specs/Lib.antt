pub mod NewYear
pub mod Kinds
pub mod Answers
pub mod Promises
pub mod Fixed

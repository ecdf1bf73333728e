pub mod Accepted
pub mod Refusal
pub mod Exactly
pub mod Answers
pub mod Fixed

pub mod Answers
pub mod Days
pub mod Passed
pub mod Refused
pub mod RestOfYear
pub mod Tables
pub mod Wings
pub mod Fixed

pub mod Months
pub mod Dates
pub mod Rows
pub mod Weekdays
pub mod Steps
pub mod Answers
pub mod Fixed

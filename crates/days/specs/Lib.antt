pub mod Range
pub mod Weekday
pub mod Fixed

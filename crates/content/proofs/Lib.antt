pub mod Answers
pub mod OneList
pub mod Calendars
pub mod OfRows
pub mod OfYears
pub mod Told
pub mod Written

pub mod MonthOf
pub mod Answers

pub mod Quick
pub mod Lengths
pub mod Rise
pub mod YearOf
pub mod Answers
pub mod Fourteen
pub mod Fixed

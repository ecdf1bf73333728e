pub mod Place
pub mod Molad
pub mod Late
pub mod Same
pub mod Answers
pub mod Fixed

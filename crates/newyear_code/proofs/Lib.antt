pub mod Spanned
pub mod Answers

pub mod Answers
pub mod Promises
pub mod Printed
pub mod Fixed

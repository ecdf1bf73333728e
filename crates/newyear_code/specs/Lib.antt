pub mod Asked
pub mod Spans
pub mod Steps

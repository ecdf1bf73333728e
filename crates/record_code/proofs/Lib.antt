pub mod Kept
pub mod Tested

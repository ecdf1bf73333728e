pub mod Windows
pub mod Counted

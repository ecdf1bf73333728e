pub mod Days
pub mod Found

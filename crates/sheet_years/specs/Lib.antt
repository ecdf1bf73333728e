pub mod Asked
pub mod Years

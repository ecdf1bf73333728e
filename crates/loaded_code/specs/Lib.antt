pub mod Place
pub mod Shown
pub mod Walker

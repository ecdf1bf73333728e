pub mod Placed
pub mod Walkers

pub mod Positions
pub mod Unique

pub mod Limits
pub mod Lengths
pub mod Turns
pub mod Refusals
pub mod Laws
pub mod Unique

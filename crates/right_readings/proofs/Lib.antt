pub mod Inputs
pub mod Unique
pub mod RoundTrip

pub mod Encoding
pub mod Answers
pub mod Lookups
pub mod Unique
pub mod RoundTrip

pub mod Promises
pub mod NeverSlower
pub mod Restarts

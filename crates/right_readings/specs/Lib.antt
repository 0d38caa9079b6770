pub mod Inputs
pub mod Promises

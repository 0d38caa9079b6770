pub mod Channels
pub mod Promises

pub mod Alarm
pub mod Promises

pub mod Readings
pub mod Sensors
pub mod Promises

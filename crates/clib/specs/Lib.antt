pub mod Facts
pub mod Bodies
pub mod Packed
pub mod Promises
pub mod Demands

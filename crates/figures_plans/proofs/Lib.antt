pub mod Starred
pub mod Agree

pub mod Looked
pub mod Made
pub mod Registers
pub mod Fits
pub mod Whole
pub mod Unique
pub mod Laws

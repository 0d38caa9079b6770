pub mod Digits
pub mod Masks
pub mod Admission
pub mod Laws
pub mod Writes
pub mod Landing
pub mod Kept
pub mod Unique

pub mod Laws
pub mod Laid
pub mod Room
pub mod Unique

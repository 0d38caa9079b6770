pub mod Scripts
pub mod Played
pub mod Promises
pub mod Rules
pub mod Making
pub mod Left

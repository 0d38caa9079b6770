pub mod Within
pub mod Unique
pub mod Bodies
pub mod Answered
pub mod Demands
pub mod Figures

pub mod Texts
pub mod Turns
pub mod Changes
pub mod Rounding
pub mod Steps

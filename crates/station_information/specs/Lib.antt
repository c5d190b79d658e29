pub mod Hearings
pub mod Latest
pub mod Tells
pub mod Ranges

pub mod Refusals
pub mod Division
pub mod Dividend
pub mod Bytes
pub mod Check
pub mod Fields

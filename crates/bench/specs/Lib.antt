pub mod Counts
pub mod Ran

pub mod Exercise
pub mod Shown

pub mod Projected
pub mod Shown

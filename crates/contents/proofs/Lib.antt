pub mod Areas
pub mod Fitting
pub mod Trips

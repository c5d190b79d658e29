pub mod Series
pub mod Slots
pub mod Sums
pub mod Heard
pub mod Whole
pub mod Promised
pub mod Offered

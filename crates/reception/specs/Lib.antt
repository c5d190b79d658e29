pub mod Runs
pub mod Order
pub mod Arrival
pub mod Linked

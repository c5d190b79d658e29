pub mod Lists
pub mod Cuts
pub mod Hearing
pub mod Draws
pub mod Order
pub mod Arrival
pub mod Passing
pub mod Few

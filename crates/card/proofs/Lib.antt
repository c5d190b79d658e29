pub mod Projected
pub mod Rounding
pub mod Written
pub mod Turning
pub mod Drawing
pub mod Storing

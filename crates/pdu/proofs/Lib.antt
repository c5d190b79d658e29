pub mod Division
pub mod Dividend
pub mod TenBytes
pub mod Coefficients
pub mod Flags
pub mod Composed

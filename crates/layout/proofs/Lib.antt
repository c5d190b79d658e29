pub mod Packing
pub mod Leading
pub mod Reading
pub mod Equality

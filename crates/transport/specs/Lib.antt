pub mod Transport
pub mod Families

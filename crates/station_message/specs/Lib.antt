pub mod Checksum
pub mod Message
pub mod Sound

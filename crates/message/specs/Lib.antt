pub mod Bits
pub mod Results
pub mod Place
pub mod Station
pub mod Location
pub mod Service
pub mod Parameter
pub mod Message

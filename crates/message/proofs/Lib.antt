pub mod Sizes
pub mod Ranges
pub mod TwosComplement
pub mod StationPacked
pub mod LocationPacked
pub mod ServicePacked
pub mod ParameterPacked
pub mod Messages

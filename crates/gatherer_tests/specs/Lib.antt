pub mod Frames
pub mod Two
pub mod LawsOfTwo

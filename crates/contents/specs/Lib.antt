pub mod Area
pub mod Contents

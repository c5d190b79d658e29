pub mod Calls
pub mod Due
pub mod Rounds
pub mod Agrees

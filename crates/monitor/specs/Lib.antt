pub mod Answers
pub mod Calls
pub mod Due
pub mod Agrees
pub mod Shown

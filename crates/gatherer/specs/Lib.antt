pub mod Answers
pub mod Series
pub mod Due
pub mod Agrees
pub mod Promises

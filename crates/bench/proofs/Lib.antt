pub mod Counting
pub mod Sending
pub mod Judging

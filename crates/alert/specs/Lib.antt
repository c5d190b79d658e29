pub mod Alert
pub mod Sound

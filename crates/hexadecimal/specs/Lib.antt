pub mod Hexadecimal
pub mod Printed
pub mod Spelled

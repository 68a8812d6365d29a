pub mod Lines
pub mod Hex
pub mod Printed

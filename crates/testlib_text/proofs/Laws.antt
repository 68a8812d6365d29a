-- What is proved of the lines that test programs read, and of the bytes that they lend.
pub mod Lines
pub mod Hex
pub mod Marks

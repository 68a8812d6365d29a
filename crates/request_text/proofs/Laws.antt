-- What is proved of lines of numbers.
pub mod Operands

-- What is proved of what is printed.
pub mod Short

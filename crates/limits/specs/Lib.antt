pub mod Limits
pub mod Words

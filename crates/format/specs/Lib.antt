pub mod Bytes
pub mod Commands
pub mod Reading
pub mod Words

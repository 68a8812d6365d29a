pub mod Sender
pub mod Words

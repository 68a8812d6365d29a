-- What is proved of the commands of a plan, one by one and in their row.
pub mod Commands
pub mod Decode
pub mod Readings

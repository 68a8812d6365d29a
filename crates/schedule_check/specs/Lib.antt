pub mod Schedules
pub mod Check
pub mod Words

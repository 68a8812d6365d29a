pub mod Rule
pub mod Words
pub mod Inner
pub mod Assign

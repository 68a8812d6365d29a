pub mod Scale
pub mod Rows

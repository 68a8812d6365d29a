pub mod Counts
pub mod Inner

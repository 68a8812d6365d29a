pub mod Inner
pub mod Hops
pub mod Moves

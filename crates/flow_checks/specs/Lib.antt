pub mod Flows
pub mod Inner

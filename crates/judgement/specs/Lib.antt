pub mod Judge
pub mod Inner

pub mod Assemble

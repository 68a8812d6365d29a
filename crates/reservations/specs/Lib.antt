pub mod Inner
pub mod Words
pub mod Reservations

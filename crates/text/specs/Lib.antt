pub mod Letters
pub mod Decimal
pub mod Put
pub mod Listed
pub mod Page

-- What is proved of printed text.
pub mod Put
pub mod Decimal
pub mod Listed

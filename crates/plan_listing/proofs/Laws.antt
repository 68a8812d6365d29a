-- What is proved of listings. The module named here has the laws.
pub mod Short

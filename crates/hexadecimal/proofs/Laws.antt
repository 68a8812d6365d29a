-- What is proved of hexadecimal digits. The module named here has the laws.
pub mod Hexadecimal

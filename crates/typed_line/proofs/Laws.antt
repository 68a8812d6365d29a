-- What is proved of one typed line. The module named here has the laws.
pub mod Operands

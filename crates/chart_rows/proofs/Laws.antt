-- What is proved of the rows of a picture. The modules named here have the laws.
pub mod Scale
pub mod Rows

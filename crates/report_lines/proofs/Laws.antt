-- What is proved of lines put one after the other, of readings told by their verdict, and of the length of lines. The modules named here hold the laws.
pub mod Lines
pub mod Read
pub mod Short
pub mod Figures

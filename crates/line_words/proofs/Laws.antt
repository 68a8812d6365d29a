-- What is proved of words: where scans of a line stop, and which words and numbers they find.
pub mod Parts
pub mod Words
pub mod Numbers
pub mod Spaced
pub mod Operands

-- What is proved of lines: what the first word asks for, and lines in plain words.
pub mod Requests
pub mod Forms

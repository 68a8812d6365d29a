-- What is proved of printed schedules. The modules named here hold the laws.
pub mod Short

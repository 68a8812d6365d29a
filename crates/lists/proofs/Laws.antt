-- What is proved of searches, sums and lists of any width. The modules named here hold the laws.
pub mod Search
pub mod Lists
pub mod Items
pub mod Equal
pub mod Listed
pub mod Sums

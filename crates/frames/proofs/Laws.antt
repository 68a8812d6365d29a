-- What is proved of marked slots and frames. The module named here has the laws.
pub mod Slots

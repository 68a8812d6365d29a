-- What is proved of the writer of plans by itself. The modules named here have the lemmas; crate `plan` has what the bytes mean.
pub mod Write
pub mod Changed

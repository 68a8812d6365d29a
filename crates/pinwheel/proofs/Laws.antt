-- Lemmas on the search for offsets.
pub mod Turns

-- What is proved of the words N=K: how they are taken one by one, and what packets all of them give.
pub mod Words
pub mod Packets

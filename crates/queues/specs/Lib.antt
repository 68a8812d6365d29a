pub mod Cells
pub mod Packets
pub mod Pace
pub mod Words

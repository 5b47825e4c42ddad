pub mod Between
pub mod Judgement
pub mod Packets
pub mod Telltale
pub mod TooLarge
pub mod Writing

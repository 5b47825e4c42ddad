pub mod Objects
pub mod ObjectReading
pub mod Names
pub mod Labels
pub mod Spelled
pub mod Inner

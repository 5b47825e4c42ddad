pub mod Cycle
pub mod Weights
pub mod Rounds
pub mod Places
pub mod Walks

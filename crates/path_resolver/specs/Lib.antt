pub mod Resolving
pub mod Shots
pub mod Shared
pub mod Names
pub mod Comparing
pub mod Places
pub mod Inner

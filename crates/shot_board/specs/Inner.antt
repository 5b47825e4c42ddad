-- What private functions and invariants are stated in; no public contract names it.
pub mod Names
pub mod Seating
pub mod Shots

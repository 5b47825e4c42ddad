-- What private functions and invariants are stated in; no public contract names it.
pub mod Air
pub mod Cycles
pub mod Plan
pub mod Promises

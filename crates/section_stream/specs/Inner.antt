-- What private functions and invariants are stated in; no public contract names it.
pub mod Classes
pub mod Kept
pub mod Rules
pub mod Steps

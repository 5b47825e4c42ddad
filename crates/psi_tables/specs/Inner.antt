-- What private functions and invariants are stated in; no public contract names it.
pub mod Finding
pub mod Pmts
pub mod Stands
pub mod Steps

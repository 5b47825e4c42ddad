-- What private functions and invariants are stated in; no public contract names it.
pub mod Hearing
pub mod Missing
pub mod Sync
pub mod Telling

-- What private functions and invariants are stated in; no public contract names it.
pub mod Linking
pub mod Merging
pub mod Passing
pub mod Stays
pub mod View

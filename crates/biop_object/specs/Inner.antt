-- What private functions and invariants are stated in; no public contract names it.
pub mod Index
pub mod Labels
pub mod ModuleFacts
pub mod Objects

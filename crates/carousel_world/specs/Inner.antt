-- What private functions and invariants are stated in; no public contract names it.
pub mod DownView

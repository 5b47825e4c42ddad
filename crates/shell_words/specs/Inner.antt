-- What private functions and invariants are stated in; no public contract names it.
pub mod Counting
pub mod Keywords
pub mod Words

-- What private functions and invariants are stated in; no public contract names it.
pub mod Acting
pub mod Casting
pub mod Ending
pub mod Plans
pub mod Seats

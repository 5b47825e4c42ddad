-- What private functions and invariants are stated in; no public contract names it.
pub mod Cuts
pub mod Held
pub mod Packets

-- What private functions and invariants are stated in; no public contract names it.
pub mod Accepted
pub mod Assemble
pub mod Extract
pub mod Firsts
pub mod Gatherers
pub mod Gathering
pub mod Inspect
pub mod Mounts
pub mod Seeking
pub mod Statuses
pub mod Watching
pub mod Why

-- What private functions and invariants are stated in; no public contract names it.
pub mod CacheView
pub mod Fitting
pub mod Joining
pub mod Keeping
pub mod Placing
pub mod Reaches
pub mod StoredView
pub mod TunedView

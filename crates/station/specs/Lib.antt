pub mod Items
pub mod Kept
pub mod Passes
pub mod Calls
pub mod Inner

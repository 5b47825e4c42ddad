pub mod Merging
pub mod Merged
pub mod Inner

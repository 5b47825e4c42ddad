pub mod Naming
pub mod Telling
pub mod Extracting
pub mod Inner

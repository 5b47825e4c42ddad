pub mod Telling
pub mod Refusals
pub mod Plans
pub mod Inner

pub mod Controls
pub mod Spellings
pub mod Inner

pub mod Scripts
pub mod Grammar
pub mod Memory
pub mod Ranges
pub mod Generated
pub mod Inner

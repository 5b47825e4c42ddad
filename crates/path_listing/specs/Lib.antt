pub mod Firsts
pub mod Walk
pub mod Inner

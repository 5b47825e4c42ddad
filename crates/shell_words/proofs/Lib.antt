pub mod Naming
pub mod Tabling
pub mod Faults
pub mod Complaining
pub mod Firsts
pub mod Reading
mod Parts
mod Digits
mod Examples
pub mod CallerLemmas

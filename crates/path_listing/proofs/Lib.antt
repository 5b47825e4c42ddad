mod Firsts
mod Parts
pub mod CallerLemmas

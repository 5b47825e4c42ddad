pub mod Finding
pub mod Named
pub mod Alike
pub mod CallerLemmas
mod Placing

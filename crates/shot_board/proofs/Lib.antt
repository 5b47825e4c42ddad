pub mod Prefixes
pub mod Lists
pub mod Naming
pub mod Adding
pub mod CallerLemmas

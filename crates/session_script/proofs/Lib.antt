pub mod Imports
pub mod Growing
pub mod Walking
pub mod Ranging
pub mod Examples
pub mod Lists
pub mod CallerLemmas
pub mod Generating

pub mod Lists
pub mod Due
mod Within
pub mod Agreeing
pub mod Steps
pub mod Over
mod Staying
pub mod Heard
pub mod CallerLemmas
pub mod Rows

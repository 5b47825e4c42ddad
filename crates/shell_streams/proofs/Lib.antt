mod Sending
mod Holding
mod Cutting
pub mod Packeting
mod Halting
mod Hearing
mod Resting
mod Gathering
pub mod CallerLemmas
pub mod Putting

mod Sending
pub mod CallerLemmas

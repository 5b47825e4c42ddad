pub mod Replay
pub mod Growing
pub mod Drawing
pub mod CallerLemmas

pub mod Spans
pub mod Laws
pub mod CallerLemmas

mod Beginning
mod Receiving
mod Interleaving
mod Overhearing
mod Opening
mod Announcing
mod Committing
mod Rehearsing
mod Planning
mod Cycling
pub mod Declining
mod Airing
mod Dispatching
pub mod CallerLemmas

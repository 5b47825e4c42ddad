pub mod Lists
pub mod Gateways
pub mod Ruling
pub mod Changing
pub mod Turning
pub mod Distinct
pub mod Bounded
pub mod Cutting
pub mod Asking
pub mod Answering
pub mod Showing
pub mod Seeking
pub mod Stepping
pub mod CallerLemmas
mod Rows

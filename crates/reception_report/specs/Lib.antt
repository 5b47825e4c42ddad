pub mod Outcomes
pub mod Missing
pub mod Telling
pub mod Sync
pub mod Listing
pub mod Report
pub mod Hearing
pub mod Inner

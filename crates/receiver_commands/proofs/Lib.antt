mod Joining
mod Offering
mod Parts
mod Entries
mod Firsts
pub mod Writing
pub mod Replying
mod Answering
mod Finding
mod Seeking
pub mod Serving
mod Assembling
mod Recording
mod Telling
mod Showing
pub mod Streaming
mod Explaining
pub mod Reporting
pub mod Unpacking
pub mod CallerLemmas

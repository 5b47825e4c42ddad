pub mod Listed
pub mod Calling
pub mod Closing
pub mod Ending
pub mod CallerLemmas

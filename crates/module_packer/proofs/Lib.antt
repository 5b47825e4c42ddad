pub mod Fresh
pub mod Kept
pub mod Passing
pub mod Telling
pub mod Rows
pub mod Remaining

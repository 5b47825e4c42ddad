pub mod Mapped
pub mod Plain
pub mod Standing
pub mod Children
pub mod Sized
pub mod Laid
pub mod Followed
pub mod Answered
mod Rows

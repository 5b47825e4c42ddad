pub mod Session
pub mod Big
pub mod Commands
pub mod Inner

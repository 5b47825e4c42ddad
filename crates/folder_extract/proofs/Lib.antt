pub mod Places
pub mod Taking
pub mod Lines
pub mod Choosing

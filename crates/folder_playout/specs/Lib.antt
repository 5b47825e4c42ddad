pub mod Readings
pub mod OnAir
pub mod Playing
pub mod Laws
pub mod Notices
pub mod Lines
pub mod Inner

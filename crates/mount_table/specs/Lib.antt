pub mod Receiving
pub mod Mounts
pub mod Stands
pub mod Laws
pub mod Inner

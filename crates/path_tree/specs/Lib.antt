pub mod Paths
pub mod Texts
pub mod Trees
pub mod Edits
pub mod Files
pub mod Nestings
pub mod Laws
pub mod Inner

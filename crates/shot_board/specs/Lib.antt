pub mod Shots
pub mod Fronts
pub mod Viewers
pub mod Showers
pub mod Inner

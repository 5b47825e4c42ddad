pub mod Objects
pub mod Generations
pub mod Histories
pub mod Requests
pub mod Laws

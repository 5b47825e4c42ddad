pub mod Words
mod Adding
mod Examples
mod FilledBytes
mod Running
mod Telling

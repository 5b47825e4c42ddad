pub mod Words
mod Lists
pub mod Showing
pub mod Opening
mod Entering
mod Rooms
mod Entered
mod Feeding
mod Gathered
mod Grown
mod Telling
mod Committed
mod Settled
mod InPlace
mod Session
mod Examples
mod Staged
mod Parted
mod Taking
mod Planning
mod Editing
mod Reading
mod Events
mod Doing
mod Closing
mod Finale
mod Begun

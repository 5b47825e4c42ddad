mod Choosing
mod Playing
mod Tallies
mod Making

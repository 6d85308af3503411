mod Asked
mod Needs
mod Walked
mod Counts

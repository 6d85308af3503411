mod RunEndings
mod Explained
mod Checks
pub mod Failing
pub mod Pushed
mod FileObjects
pub mod Fates
mod FirstBytes
mod Infos
mod Inputs
mod Items
pub mod Joined
mod Paths
mod Streams
mod Telling
mod ToldByAll

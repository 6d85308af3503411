pub mod Owned
pub mod Keeping
pub mod Halting
pub mod Starts
pub mod Runs
pub mod inner

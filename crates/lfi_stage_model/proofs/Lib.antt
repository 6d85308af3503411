pub mod Kept
pub mod Each
pub mod Filling
pub mod Staying
pub mod Turned

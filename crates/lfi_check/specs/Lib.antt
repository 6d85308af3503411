pub mod Checking
pub mod Begun
pub mod Cuts

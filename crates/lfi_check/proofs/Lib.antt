pub mod Begun
pub mod Cuts
pub mod Spelled

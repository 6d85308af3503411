pub mod Faults
pub mod Packs
pub mod Heard
pub mod inner

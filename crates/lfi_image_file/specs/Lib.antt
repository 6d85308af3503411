pub mod Files
pub mod Reading
pub mod Faults
pub mod inner

pub mod Heard
pub mod Seated
pub mod Running
pub mod inner

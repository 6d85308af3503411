pub mod Names
pub mod Digits
pub mod Texts
pub mod inner

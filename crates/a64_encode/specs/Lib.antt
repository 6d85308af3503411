pub mod Encoding
pub mod inner

pub mod Serving
pub mod Runs
pub mod Texts
pub mod inner

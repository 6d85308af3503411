pub mod Knowledge
pub mod Calls
pub mod Known
pub mod Rows
pub mod inner

pub mod Judged
pub mod Image
pub mod Built
pub mod inner

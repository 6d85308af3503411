pub mod Workers
pub mod Shares
pub mod Parts
pub mod Fresh

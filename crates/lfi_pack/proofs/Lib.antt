pub mod Pages
pub mod Messages
pub mod Whole
pub mod Parts
pub mod Shares
pub mod Hearing
pub mod Numbering

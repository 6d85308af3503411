pub mod Room
pub mod Instructions
pub mod Lengths
pub mod Found
pub mod Columns
pub mod Lines
pub mod Near

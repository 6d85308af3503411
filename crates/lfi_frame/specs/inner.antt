pub mod Kinds
pub mod Positions

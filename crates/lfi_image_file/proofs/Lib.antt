pub mod Headers
pub mod Pieces
pub mod Runs
pub mod Small
pub mod Whole
pub mod Written
pub mod OneImage
pub mod HeaderFaults

pub mod Seats
pub mod Given

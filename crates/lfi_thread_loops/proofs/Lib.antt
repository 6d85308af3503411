pub mod Heard
pub mod Hears
pub mod Through
pub mod Clients
pub mod Placed

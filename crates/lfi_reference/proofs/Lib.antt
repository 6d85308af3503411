pub mod Messages
pub mod AllModules
pub mod Pages
pub mod Loads
pub mod Sized
pub mod Reporting
pub mod Spelled

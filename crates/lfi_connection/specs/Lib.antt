pub mod Modules
pub mod DuePages
pub mod Connections
pub mod Events
pub mod Endings

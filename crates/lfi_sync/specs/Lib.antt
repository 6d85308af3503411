pub mod Clients
pub mod Deadlines
pub mod Fates
pub mod LaneSets
pub mod Lifecycles
pub mod Stops

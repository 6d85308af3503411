pub mod Clients
pub mod Hearing
pub mod PartIds
pub mod Workers

pub mod Endings
pub mod Explained
pub mod Clients
pub mod Objects
pub mod Loading
pub mod Serving
pub mod Runs
pub mod inner

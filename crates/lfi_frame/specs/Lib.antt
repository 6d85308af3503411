pub mod Faults
pub mod inner
pub mod Streams
pub mod Feeds
pub mod Runs

pub mod Numbers
pub mod Streams
pub mod Events
pub mod Endings
pub mod Outcomes

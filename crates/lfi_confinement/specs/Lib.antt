pub mod Slots
pub mod Lawful
pub mod Moves
pub mod Runs
pub mod Edges
pub mod Loop
pub mod inner

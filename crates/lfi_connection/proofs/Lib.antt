pub mod Texts
pub mod Growth
pub mod Books
pub mod Items
pub mod Told
pub mod InputEnds

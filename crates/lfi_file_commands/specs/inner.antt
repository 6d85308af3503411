-- What private functions answer. No claim of this crate rests on these definitions.
pub mod Infos
pub mod Keeping
pub mod Pieces
pub mod Whole

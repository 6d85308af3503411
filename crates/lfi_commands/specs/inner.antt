-- What private functions answer. No claim of this crate rests on these definitions.
pub mod Known
pub mod Ranges

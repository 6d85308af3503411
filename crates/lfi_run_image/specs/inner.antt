-- What private functions answer and types keep. No claim of this crate rests on these definitions.
pub mod Attempts

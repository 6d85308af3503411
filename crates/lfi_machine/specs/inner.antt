-- What private functions answer and types keep. No claim of this crate rests on these definitions.
pub mod Transfers
pub mod Addresses
pub mod Decoded
pub mod Rows

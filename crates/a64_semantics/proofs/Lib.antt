pub mod Bits
pub mod Extensions
pub mod Fields
pub mod Signed
pub mod Tables
pub mod Unshifted
pub mod Told

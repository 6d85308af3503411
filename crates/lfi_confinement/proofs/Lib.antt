pub mod Places
pub mod Uses
pub mod Held
pub mod Results
pub mod Needed
pub mod Confinement
pub mod Tested
pub mod Looping

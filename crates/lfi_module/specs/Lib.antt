pub mod Numbers
pub mod Extents
pub mod Pages
pub mod Profiles

pub mod Item
pub mod Items
pub mod Modules
pub mod Outcomes
pub mod Texts

pub mod Messages
pub mod Shares
pub mod Connections
pub mod Pages
pub mod Reports

pub mod Apps
pub mod CommandLine
pub mod Flaws
pub mod inner

pub mod Growing
pub mod Faults
pub mod Lines
pub mod Numbered
pub mod OneText
pub mod OneOutcome

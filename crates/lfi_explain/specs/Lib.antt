pub mod Openers
pub mod Spellings
pub mod Groups
pub mod Sentences
pub mod Mendings
pub mod Explanations
pub mod Listings

mod ProfileNumbers
mod Pages
mod Told
mod OneText
mod Wholes
mod Places
mod Counted
pub mod Paged

mod Kept
mod Told

pub mod Goings
pub mod Kept

pub mod Places
pub mod Swapped

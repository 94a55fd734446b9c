pub mod Places
pub mod NoteLaws
pub mod Blocks

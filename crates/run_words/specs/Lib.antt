pub mod Symbols
pub mod Texts
pub mod Steps
pub mod Pieces
pub mod Readings
pub mod Arguments

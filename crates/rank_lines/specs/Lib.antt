pub mod Cycles
pub mod Lines
pub mod Streams
pub mod Waits

pub mod Texts
pub mod Lines
pub mod Files
pub mod Slots
pub mod Nodes
pub mod Own
pub mod Batch

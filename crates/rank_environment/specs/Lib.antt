pub mod Variables
pub mod VariableMeanings
pub mod Frames

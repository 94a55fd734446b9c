pub mod Refusals
pub mod EngineState
pub mod Frames
pub mod Steps
pub mod Routes
pub mod Faults
pub mod Asks
pub mod Calls

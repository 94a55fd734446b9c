pub mod Faults
pub mod Lacks
pub mod Messages

pub mod Program
pub mod Settings
pub mod Faults
pub mod Places

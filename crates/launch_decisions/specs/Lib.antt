pub mod Endings
pub mod Failures
pub mod Requests
pub mod Starts

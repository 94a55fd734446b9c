pub mod Estimates
pub mod Latenesses
pub mod Trips
pub mod Turns

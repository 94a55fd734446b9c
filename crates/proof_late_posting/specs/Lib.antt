pub mod Places
pub mod Ties
pub mod Explored
pub mod Example
pub mod Written

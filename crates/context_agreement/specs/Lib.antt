pub mod Communicators
pub mod GivenOnce
pub mod Numbers
pub mod Splits
pub mod Parts

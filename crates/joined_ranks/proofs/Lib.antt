pub mod Alone
pub mod Turns

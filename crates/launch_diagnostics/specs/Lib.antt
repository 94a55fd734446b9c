pub mod Places
pub mod Dues
pub mod Explanations

pub mod Agree
pub mod Firsts
pub mod Names
pub mod Orders
pub mod Places

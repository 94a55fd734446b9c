pub mod Tables
pub mod Cores
pub mod Engines

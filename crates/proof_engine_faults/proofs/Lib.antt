pub mod Calm
pub mod Rows
pub mod Alike
pub mod CallFaults
pub mod Orderly
mod Tables
mod GroupsOfJob
mod OrderlyEngines

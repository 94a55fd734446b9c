pub mod Beginnings
pub mod Standings

pub mod Standings
pub mod LastLines

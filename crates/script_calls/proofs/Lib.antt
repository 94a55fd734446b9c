pub mod TableLaws
pub mod Standings

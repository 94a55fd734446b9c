pub mod NamedMoves
pub mod Standings

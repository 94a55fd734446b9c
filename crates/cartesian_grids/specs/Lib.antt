pub mod Grids
pub mod Moves
pub mod Parts
pub mod Balance

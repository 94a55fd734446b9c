pub mod Comparisons
pub mod Groups
pub mod RankSets
pub mod Makings

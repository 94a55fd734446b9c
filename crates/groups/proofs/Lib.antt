pub mod RankSetLemmas
pub mod Repeats
pub mod Selections
pub mod ComparisonLaws

pub mod RunLaws
pub mod MakingLaws
pub mod ShareLaws

pub mod RankLaws
pub mod ByteLaws

pub mod SetLaws
pub mod CommandLaws

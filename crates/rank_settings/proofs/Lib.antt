pub mod ProgramLaws
pub mod SettingsLaws

pub mod CycleLaws
pub mod LineLaws
pub mod WaitLaws

pub mod RunLaws
pub mod StandingLaws

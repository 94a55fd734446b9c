pub mod Plays
pub mod Events
pub mod MeaningViews
pub mod Alike
pub mod PlayLaws

pub mod Restarts
pub mod Knowledge
pub mod Judgements
pub mod Lessons

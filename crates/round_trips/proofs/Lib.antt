pub mod KindLaws
pub mod Learning
pub mod TurnBounds
pub mod WaitBounds

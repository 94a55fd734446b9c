pub mod BufferSteps
pub mod PieceLaws
pub mod PlaceLaws
pub mod RunLaws
pub mod FillLaws
pub mod CombinationLaws
pub mod BlockLaws
pub mod RoomLaws

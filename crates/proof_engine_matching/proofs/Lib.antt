pub mod Positions
pub mod Acceptance
pub mod ArrivalLemmas
pub mod PostLemmas
pub mod EndingLemmas
pub mod AnnouncedLemmas

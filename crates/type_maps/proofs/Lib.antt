pub mod Words
pub mod PlaceLaws
pub mod SummaryLaws
pub mod EntryLaws
pub mod Gives
pub mod TypeLaws
pub mod PackingLaws
pub mod OwnIndices

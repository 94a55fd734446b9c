pub mod PlaceLaws
pub mod FirstPlaces
pub mod WritingLaws
pub mod Apart

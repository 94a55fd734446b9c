pub mod Orders
pub mod Unique
pub mod Worth
pub mod DigitTexts
pub mod ReadBack

pub mod Agreement
pub mod Codes
pub mod Spellings
pub mod ByteMeanings

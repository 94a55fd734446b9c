pub mod Tables
pub mod NamedThings
pub mod Entries
pub mod OutcomeTexts

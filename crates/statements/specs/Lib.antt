pub mod Grammar
pub mod Words
pub mod LineWords
pub mod Meanings

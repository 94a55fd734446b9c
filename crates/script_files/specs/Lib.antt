pub mod Audiences
pub mod Selections
pub mod Grammar
pub mod LineWords
pub mod Scripts

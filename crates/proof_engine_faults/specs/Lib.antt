pub mod Own
pub mod OrderlyEngines

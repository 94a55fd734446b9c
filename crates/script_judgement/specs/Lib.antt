pub mod KnownNames
pub mod Parties

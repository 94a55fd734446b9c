pub mod Values
pub mod Ends
pub mod Events
pub mod GoingOn

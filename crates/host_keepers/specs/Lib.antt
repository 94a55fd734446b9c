pub mod Messages
pub mod Frames
pub mod Orders
pub mod Reports
pub mod Ends
pub mod Connections

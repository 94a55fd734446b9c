pub mod Words
pub mod Statuses
pub mod Keepers
pub mod Reports
pub mod Roles
pub mod JoinedOutput
pub mod StandardError

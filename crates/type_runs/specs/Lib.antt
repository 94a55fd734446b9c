pub mod Records
pub mod Runs
pub mod Making
pub mod Shares

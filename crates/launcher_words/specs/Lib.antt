pub mod Answers
pub mod Cuts
pub mod Lengths
pub mod Places
pub mod Ports
pub mod Records
pub mod Ways
pub mod Words

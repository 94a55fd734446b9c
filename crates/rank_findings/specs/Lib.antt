pub mod Endings
pub mod Findings
pub mod Laws
pub mod Orders
pub mod Told
pub mod Verdicts

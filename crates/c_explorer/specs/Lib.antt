pub mod Answers
pub mod Asked
pub mod FindingNumbers
pub mod HandleContents
pub mod RanksContents

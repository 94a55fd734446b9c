pub mod CallLaws
pub mod EntryLaws
pub mod FaultLaws
pub mod SeveralLaws

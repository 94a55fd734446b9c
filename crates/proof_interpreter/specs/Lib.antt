pub mod Names
pub mod StatementCalls
pub mod Answers
pub mod Refusals

pub mod Tables
pub mod Frames
pub mod OutcomeLaws
pub mod Several
pub mod Answers
pub mod StatementCalls
pub mod Refusals

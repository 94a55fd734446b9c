pub mod Numbers
pub mod NamesState
pub mod StatementCalls
pub mod Faults
pub mod Answers

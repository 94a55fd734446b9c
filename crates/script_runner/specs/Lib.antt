pub mod ScriptSteps
pub mod Positions
pub mod AnswerLines
pub mod ScriptRanks

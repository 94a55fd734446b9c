pub mod Tables
pub mod StatementCalls
pub mod Answers
pub mod NextSteps
pub mod CoveredCalls
pub mod StepBounds
pub mod ReplyViews
pub mod ProcessViews

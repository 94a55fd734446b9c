pub mod ByteOrderLaws
pub mod HandingSteps
pub mod AnswerLaws
pub mod MeaningSteps
pub mod ClockSteps
pub mod WindowSteps

pub mod RunSteps
pub mod KeptSteps
pub mod HandedSteps

pub mod Operations
pub mod OperationLaws
pub mod Folds

pub mod Lists
pub mod WordLaws
pub mod EachLaws
pub mod MarkLaws
pub mod FieldLaws
pub mod LineSteps
pub mod LineLaws

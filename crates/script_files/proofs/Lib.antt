pub mod VerbLaws
pub mod MemberLaws
pub mod ItemLaws
pub mod ScriptLaws
pub mod ScriptSteps

pub mod VerbLaws
pub mod HexLaws
pub mod EventLaws
pub mod FileLaws
pub mod StartSteps

pub mod VariableLaws

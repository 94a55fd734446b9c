pub mod Layouts
pub mod Refusals
pub mod Spans

pub mod ContextLaws
pub mod RowParts
pub mod RowOrder

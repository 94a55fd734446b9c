pub mod LayoutLaws
pub mod SpanLaws
pub mod TransferLaws

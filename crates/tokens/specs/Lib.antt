pub mod Grammar
pub mod Numbers
pub mod Words
pub mod Results
pub mod Fields
pub mod Lines
pub mod Texts

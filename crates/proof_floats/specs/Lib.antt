pub mod Dependence
pub mod ReadingBack

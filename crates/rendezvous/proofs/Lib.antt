pub mod Steps
pub mod Firsts
pub mod PieceLaws
pub mod CourseLaws
pub mod OfferLaws
pub mod NumberLaws
pub mod FoundLaws
pub mod PayloadNumbers

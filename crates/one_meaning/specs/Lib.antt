pub mod Pairs
pub mod PairLaws
pub mod Accounts
pub mod Courses
pub mod CourseLaws
pub mod Turns
pub mod Examples

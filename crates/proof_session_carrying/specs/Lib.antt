pub mod Announcements
pub mod SessionViews
pub mod CarryLaws
pub mod EventLaws
pub mod MessageLaws

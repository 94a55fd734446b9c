pub mod AnnouncementLaws
pub mod SessionViews
pub mod NoticeMessages
pub mod EventSteps
pub mod MessageSteps

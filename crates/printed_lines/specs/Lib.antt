pub mod Answers
pub mod CommunicatorTexts
pub mod Lines
pub mod FrameKinds

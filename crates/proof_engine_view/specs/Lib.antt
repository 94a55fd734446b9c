pub mod Faults
pub mod Frames
pub mod Transfers
pub mod FrameViews
pub mod Rows
pub mod UnderWay
pub mod CoreViews

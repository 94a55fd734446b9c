pub mod Keeping
pub mod OmittedDatagrams
pub mod PortSteps
pub mod Steps

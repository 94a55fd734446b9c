pub mod Runs
pub mod HandedDatagrams

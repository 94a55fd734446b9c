pub mod HostLists
pub mod Addresses

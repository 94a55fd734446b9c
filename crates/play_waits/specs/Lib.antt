pub mod AwaitedMembers
pub mod GivenRequests

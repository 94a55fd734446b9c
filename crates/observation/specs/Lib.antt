-- To be read and believed: what a call, a reply and a completion of an engine are to the machine, and why a call is
-- refused.
pub mod CoreCalls
pub mod EngineCalls
pub mod Endings
pub mod Reasons
pub mod Requests
pub mod Sessions
pub mod Faults

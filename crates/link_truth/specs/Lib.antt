-- To be read and believed: that sessions are quiet, and that every datagram tells the truth of its link.
pub mod Links
pub mod Quiet
pub mod Sessions
pub mod DatagramTruth
pub mod Truth
pub mod Wire
pub mod Witness

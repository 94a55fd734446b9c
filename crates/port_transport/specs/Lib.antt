pub mod Wires
pub mod Ports

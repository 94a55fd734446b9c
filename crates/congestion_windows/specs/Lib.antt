pub mod Windows
pub mod Flights

pub mod FaultyEnds

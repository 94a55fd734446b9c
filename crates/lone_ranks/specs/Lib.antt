pub mod LoneStates

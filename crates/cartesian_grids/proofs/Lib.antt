pub mod GridProofs
pub mod BalanceProofs

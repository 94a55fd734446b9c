pub mod MessageLimits

pub mod study
pub mod sweeps
pub mod times

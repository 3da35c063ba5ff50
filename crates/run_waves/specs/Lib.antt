pub mod derived
pub mod waves

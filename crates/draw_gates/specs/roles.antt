pub mod Parts
pub mod Lookup

pub mod Grown
pub mod Plain

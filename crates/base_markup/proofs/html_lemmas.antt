pub mod Grown
pub mod Unmarked

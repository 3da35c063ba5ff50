pub mod lint
pub mod warnings

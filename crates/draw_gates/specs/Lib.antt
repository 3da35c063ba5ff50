pub mod dump
pub mod roles

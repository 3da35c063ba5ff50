pub mod Asked
pub mod Denials

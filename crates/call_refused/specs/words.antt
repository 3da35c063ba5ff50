pub mod Mistakes
pub mod Slips

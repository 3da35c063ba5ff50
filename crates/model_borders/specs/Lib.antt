pub mod Later
pub mod Borders
pub mod Between
pub mod Least

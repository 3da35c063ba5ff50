pub mod Versions
pub mod Changes
pub mod Compared

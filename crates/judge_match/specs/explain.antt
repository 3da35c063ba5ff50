pub mod Changes
pub mod Explains
pub mod Parts
pub mod Answers
pub mod Asked
pub mod Found

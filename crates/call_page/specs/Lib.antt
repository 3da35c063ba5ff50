pub mod Parts
pub mod Facts
pub mod Verdicts
pub mod Faults
pub mod Choices
pub mod Files
pub mod Sources
pub mod Pages

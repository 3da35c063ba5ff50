pub mod Spans
pub mod Terns
pub mod TernLaws
pub mod Cells
pub mod Sent
pub mod Held

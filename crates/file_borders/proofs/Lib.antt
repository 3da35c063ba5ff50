pub mod Steps
pub mod Times
pub mod Whats
pub mod Spans
pub mod Alike
pub mod Begins
pub mod Faults
pub mod Studies

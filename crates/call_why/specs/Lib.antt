pub mod Parts
pub mod Words
pub mod Lines
pub mod Times
pub mod Reasons
pub mod Why

pub mod Posed
pub mod Question
pub mod Rows
pub mod Times

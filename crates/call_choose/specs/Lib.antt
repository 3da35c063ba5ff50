pub mod Left
pub mod Named
pub mod Times
pub mod Record
pub mod Choices
pub mod Rows
pub mod Asked
pub mod Answers

pub mod Mapped
pub mod Asked
pub mod Denials
pub mod Answers

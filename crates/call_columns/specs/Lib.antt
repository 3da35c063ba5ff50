pub mod Fields
pub mod Columns
pub mod Lines
pub mod Answers
pub mod Tables

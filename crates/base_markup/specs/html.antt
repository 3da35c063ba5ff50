pub mod Names
pub mod Attributes
pub mod Words
pub mod Content

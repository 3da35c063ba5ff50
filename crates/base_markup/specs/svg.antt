pub mod Names
pub mod Escape
pub mod Attributes
pub mod Content

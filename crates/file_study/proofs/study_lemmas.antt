pub mod Quotients
pub mod Texts
pub mod Steps
pub mod NewNames
pub mod Owners

pub mod Digits
pub mod Held
pub mod Ids
pub mod Later
pub mod Steps
pub mod Finding

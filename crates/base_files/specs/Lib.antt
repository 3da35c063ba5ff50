pub mod Kept
pub mod Reasons
pub mod Views

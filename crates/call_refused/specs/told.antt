pub mod Told
pub mod Unread

pub mod Found
pub mod Kept
pub mod Shares
pub mod Worsts

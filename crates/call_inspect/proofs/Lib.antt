pub mod Inspecting
pub mod Fetching
pub mod Closing
pub mod ByScripts

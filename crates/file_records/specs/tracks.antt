pub mod Channels
pub mod Tracks
pub mod Levels
pub mod Told
pub mod Sampled
pub mod Fields
pub mod Rows

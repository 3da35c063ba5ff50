pub mod map
pub mod recorded
pub mod tracks

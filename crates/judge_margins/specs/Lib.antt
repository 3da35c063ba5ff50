pub mod map
pub mod margins

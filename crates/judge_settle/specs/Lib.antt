pub mod corner
pub mod settle

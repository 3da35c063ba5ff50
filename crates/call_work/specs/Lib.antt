pub mod choose
pub mod explain
pub mod load
pub mod map

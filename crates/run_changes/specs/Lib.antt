pub mod changes
pub mod rows

pub mod commands
pub mod once
pub mod top

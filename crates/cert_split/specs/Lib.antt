pub mod check
pub mod text

pub mod boxes
pub mod verdict

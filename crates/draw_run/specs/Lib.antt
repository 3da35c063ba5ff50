pub mod diagram
pub mod layout

pub mod Picked
pub mod Table
pub mod Explain

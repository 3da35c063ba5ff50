pub mod Drawn
pub mod Exact
pub mod Loose
pub mod Studies

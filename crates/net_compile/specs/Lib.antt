pub mod Growing
pub mod Compiled
pub mod NetText

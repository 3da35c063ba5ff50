pub mod explain
pub mod matching

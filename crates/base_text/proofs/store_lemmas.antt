pub mod Counted
pub mod Digits
pub mod Fetched
pub mod FileLaws
pub mod Pieces
pub mod Put

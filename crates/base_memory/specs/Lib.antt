pub mod Gives
pub mod CheckLaws

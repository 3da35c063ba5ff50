pub mod Plays
pub mod Facts
pub mod Causes
pub mod Reasons
pub mod PlayLaws

pub mod Boxes
pub mod Told
pub mod Telling
pub mod Posing

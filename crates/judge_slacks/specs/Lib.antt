pub mod Known
pub mod Inward
pub mod Needs
pub mod SlackLaws
pub mod Asked
pub mod Lacks

pub mod Longests
pub mod Conjunctions
pub mod Waves
pub mod Telling
pub mod Terminals
pub mod OfFaults

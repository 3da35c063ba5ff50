pub mod Names
pub mod SameNets
pub mod Listing

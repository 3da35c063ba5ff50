pub mod Equal
pub mod Standing
pub mod Adding
pub mod Ends
pub mod Nodes
pub mod Channels
pub mod PartGates

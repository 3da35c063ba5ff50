pub mod PathBytes
pub mod Paths
pub mod Keys
pub mod Faults
pub mod Words
pub mod LeastUnknown
pub mod DocumentLaws

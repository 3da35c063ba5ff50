pub mod FirstLeaf
pub mod Walks
pub mod Results
pub mod Counts
pub mod Check

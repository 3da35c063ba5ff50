pub mod LaterElements
pub mod AtRest
pub mod RestingTrees
pub mod LaterTrees
pub mod LengthSums
pub mod Places
pub mod LiesBetween
pub mod Leasts

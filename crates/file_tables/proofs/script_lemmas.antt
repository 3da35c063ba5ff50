pub mod Fitting
pub mod SoFar
pub mod Steps
pub mod Taken
pub mod OneFile
pub mod ReadBack
pub mod Lengths

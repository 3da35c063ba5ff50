pub mod ReadBack
pub mod Earlier
pub mod SoFarInside
pub mod Standing
pub mod TableLaws
pub mod Lengths

pub mod Classes
pub mod Seen
pub mod Svg
pub mod Scale
pub mod Cells
pub mod Numbers
pub mod Legend
pub mod Drawings

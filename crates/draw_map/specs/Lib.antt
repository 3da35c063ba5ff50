pub mod Maps
pub mod Words
pub mod Beyond
pub mod Grids

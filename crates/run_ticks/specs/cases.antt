pub mod Masks
pub mod Given
pub mod Ticks
pub mod UnderWaves
pub mod Runs

pub mod LooseRuns
pub mod LooseWaves

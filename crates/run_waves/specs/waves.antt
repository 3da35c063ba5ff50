pub mod Waves
pub mod Text
pub mod WaveLaws
pub mod FirstTick
pub mod FirstTickLaws
pub mod LevelLaws

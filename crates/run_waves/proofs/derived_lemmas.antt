pub mod Waves
pub mod GateLaws
pub mod StretchLaws
pub mod CoverLaws

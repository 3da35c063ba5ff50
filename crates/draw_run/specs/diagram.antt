pub mod Traces
pub mod Stretches
pub mod Times
pub mod DelaySteps
pub mod DelayStepLaws
pub mod Drawn
pub mod Windows
pub mod Diagrams

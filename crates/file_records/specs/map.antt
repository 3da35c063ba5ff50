pub mod Instants
pub mod Sources
pub mod Signals
pub mod Recorders
pub mod Maps
pub mod DataNames

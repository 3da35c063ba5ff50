pub mod Operands
pub mod Lacks
pub mod Stretches
pub mod Races
pub mod Lasting
pub mod Gates
pub mod Spare

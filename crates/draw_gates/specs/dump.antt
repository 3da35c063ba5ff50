pub mod Variables
pub mod Codes
pub mod Dump
pub mod GateValues

pub mod Cases
pub mod Faults
pub mod Findings
pub mod Records
pub mod ShareLaws
pub mod Stretches
pub mod Verdicts
pub mod Worst

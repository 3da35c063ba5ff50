pub mod HeldRules
pub mod Refutations
pub mod Acceptance
pub mod Refusal
pub mod FirstVerdicts
pub mod OneFault
pub mod OneCheckFault

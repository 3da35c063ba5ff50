pub mod BlockSpanLaws
pub mod CandidatesInside
pub mod ChoiceInside
pub mod ChoiceSteps
pub mod SameHistories
pub mod StepParts

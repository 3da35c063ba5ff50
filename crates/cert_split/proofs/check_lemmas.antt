pub mod FirstLeafLaws
pub mod WalkLaws
pub mod ResultLaws
pub mod FirstVerdicts
pub mod OneTree
pub mod OneFault
pub mod OneSplitFault

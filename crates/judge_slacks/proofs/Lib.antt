pub mod EndLaws
pub mod InwardLaws
pub mod MoveSpans
pub mod MoveLaws
pub mod NeedLaws
pub mod LackLaws

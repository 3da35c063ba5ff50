pub mod SameRows
pub mod Texts
pub mod RaisedLaws
pub mod MarginLaws
pub mod LossLaws
pub mod OneMargin

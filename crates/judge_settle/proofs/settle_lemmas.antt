pub mod ViewLaws
pub mod TreeLaws
pub mod LeafLaws
pub mod CornerLaws
pub mod AnswerLaws
pub mod EveryLaws
pub mod RulingLaws

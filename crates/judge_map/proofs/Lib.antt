pub mod BoxLaws
pub mod RuleLaws
pub mod AnswerLaws
pub mod KnownLaws

pub mod RowLaws
pub mod RangeLaws
pub mod AskLaws

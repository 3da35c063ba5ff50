pub mod PlayRows
pub mod RowLaws
pub mod StandingLaws

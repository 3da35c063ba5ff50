pub mod SpanLaws
pub mod RailLaws
pub mod CellLaws
pub mod SentLaws
pub mod HeldLaws

pub mod PieceLaws
pub mod lines
pub mod store

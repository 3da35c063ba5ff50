pub mod SearchLaws
mod PlayLaws

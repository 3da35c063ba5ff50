pub mod html
pub mod svg

pub mod html_lemmas
pub mod svg_lemmas

pub mod check_lemmas
pub mod text_lemmas

pub mod lines_lemmas
pub mod store_lemmas

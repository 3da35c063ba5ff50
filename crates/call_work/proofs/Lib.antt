pub mod explain_lemmas
pub mod load_lemmas
pub mod map_lemmas

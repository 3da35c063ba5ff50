pub mod map_lemmas
pub mod margins_lemmas

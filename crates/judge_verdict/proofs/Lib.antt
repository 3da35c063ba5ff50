pub mod boxes_lemmas
pub mod verdict_lemmas

pub mod corner_lemmas
pub mod settle_lemmas

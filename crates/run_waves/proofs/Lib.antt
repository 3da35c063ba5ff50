pub mod derived_lemmas
pub mod waves_lemmas

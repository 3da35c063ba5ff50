pub mod study_lemmas
pub mod sweeps_lemmas
pub mod times_lemmas

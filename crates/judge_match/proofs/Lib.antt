pub mod explain_lemmas
pub mod matching_lemmas

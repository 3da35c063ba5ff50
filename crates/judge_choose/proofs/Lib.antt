pub mod choose_lemmas

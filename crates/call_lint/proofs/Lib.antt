pub mod warnings_lemmas

pub mod dump_lemmas

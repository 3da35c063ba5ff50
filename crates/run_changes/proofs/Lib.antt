pub mod changes_lemmas
pub mod rows_lemmas

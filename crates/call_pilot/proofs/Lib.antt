pub mod commands_lemmas
pub mod once_lemmas
pub mod top_lemmas

pub mod diagram_lemmas
pub mod layout_lemmas

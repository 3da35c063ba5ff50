pub mod TextLaws
pub mod script_lemmas
pub mod timing_lemmas

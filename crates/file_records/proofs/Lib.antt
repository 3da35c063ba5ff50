pub mod map_lemmas
pub mod recorded_lemmas
pub mod tracks_lemmas

pub mod places
pub mod words
pub mod told

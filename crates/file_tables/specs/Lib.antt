pub mod script
pub mod timing
pub mod FieldLaws

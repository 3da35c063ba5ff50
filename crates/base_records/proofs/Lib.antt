pub mod AllRecords
pub mod FieldLists
pub mod Folds
pub mod LeftRecords

pub mod Greatest
pub mod GroupLaws
pub mod Joining
pub mod Names
pub mod PartLaws
pub mod Refusing
pub mod StudyLaws
pub mod Sweeping

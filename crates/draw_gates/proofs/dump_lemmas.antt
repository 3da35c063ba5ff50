pub mod TextLaws
pub mod NameLaws
pub mod DumpLaws
pub mod PartLaws
pub mod LevelLaws

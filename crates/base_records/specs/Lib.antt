pub mod Records
pub mod RecordFile
pub mod Left
pub mod ListLaws
pub mod Fields
pub mod SoFar
pub mod SoFarLaws

pub mod ListLaws
pub mod PlacedLaws
pub mod CellLaws
pub mod RuledLaws
pub mod HeldCells
pub mod FaultLaws
pub mod PlacedCells

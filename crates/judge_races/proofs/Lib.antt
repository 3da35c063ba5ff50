pub mod LackLaws
pub mod StretchLaws
pub mod RaceLaws
pub mod WaveLaws
pub mod PlaceLaws
pub mod SpareLaws
pub mod OperandLaws
pub mod NowLaws

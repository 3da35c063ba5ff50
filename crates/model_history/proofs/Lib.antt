pub mod Fields
pub mod ElementLaws
pub mod RecordedLaws
pub mod RailsBridge
pub mod DelayLaws
pub mod WiderLaws
pub mod SoundLaws
pub mod PlainLaws

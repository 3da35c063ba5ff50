pub mod ValueLaws
pub mod MaskLaws
pub mod UnderLaws
pub mod GivenLaws
pub mod DelayLaws
pub mod KindLaws

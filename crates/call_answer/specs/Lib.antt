pub mod Answers
pub mod SinkLaws
pub mod Sinks
pub mod Study

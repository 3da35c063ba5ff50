pub mod ToldHistory
pub mod TrackLaws
pub mod FirstWithin
pub mod FirstTicks
pub mod FailingLaws
pub mod StandingLaws
pub mod VerdictLaws

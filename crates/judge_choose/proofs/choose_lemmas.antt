pub mod CoverLaws
pub mod ToldLaws
pub mod LaneLaws
pub mod AskedLaws
pub mod TodayLaws

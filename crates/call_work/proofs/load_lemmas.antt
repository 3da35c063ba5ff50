pub mod Loading
pub mod NearestLaws

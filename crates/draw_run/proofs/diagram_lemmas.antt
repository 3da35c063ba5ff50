pub mod Lists
pub mod StepLaws
pub mod StretchLaws
pub mod TraceLaws
pub mod WindowLaws

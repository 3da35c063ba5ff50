pub mod Digits
pub mod Swept
pub mod Behind
pub mod Ordered
pub mod EqualEnds
pub mod ReadBack
pub mod Meant

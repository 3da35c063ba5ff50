pub mod MovedBack
pub mod SharedEnds
pub mod Within
pub mod Onward

pub mod Claims
pub mod Firsts
pub mod Stretches
pub mod FirstLaws

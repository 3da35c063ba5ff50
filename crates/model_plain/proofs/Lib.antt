pub mod OthersLaws
pub mod ProgramLaws
pub mod Counts
pub mod WeakLaws
pub mod NamedLaws

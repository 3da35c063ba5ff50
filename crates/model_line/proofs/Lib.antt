pub mod Copying
pub mod Counts
pub mod DeclaredIntervals
pub mod Groups
pub mod Intervals
pub mod NamePadding
pub mod TerminalNames

pub mod ElementTests
pub mod Listed
pub mod ScriptTests
pub mod SweepTests
pub mod TimeTests
pub mod Warnings

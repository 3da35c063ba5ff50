pub mod Whole
pub mod Rows
pub mod Table
pub mod Settled
pub mod Slacks
pub mod Margins
pub mod Written
pub mod Recheck

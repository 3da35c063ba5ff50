pub mod Words
pub mod Trips
pub mod Fault
pub mod Rows
pub mod Races

pub mod Known
pub mod Cells
pub mod Asked
pub mod Ruled
pub mod Answered
pub mod Laws
pub mod MapText

pub mod cases

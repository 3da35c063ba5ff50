pub mod SameAxes
pub mod Params
pub mod Denied

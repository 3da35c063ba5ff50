pub mod FileLaws
pub mod Files
pub mod Messages
pub mod Refusals
pub mod Said
pub mod Status
pub mod Stops
pub mod Study

pub mod QuietRows
pub mod TrackRows

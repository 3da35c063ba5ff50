pub mod WaveLaws
pub mod Rules
pub mod Lists
pub mod RightKeys
pub mod TripsCovered

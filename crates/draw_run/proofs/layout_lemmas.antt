pub mod Anys
pub mod Apart
pub mod Bars
pub mod Lists
pub mod Places
pub mod Shown

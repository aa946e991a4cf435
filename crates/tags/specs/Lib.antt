pub mod Bearing
pub mod Changing

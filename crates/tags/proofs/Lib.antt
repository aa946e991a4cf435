pub mod Bearing
pub mod Changing
pub mod Finding
pub mod Numerals

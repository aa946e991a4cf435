pub mod Exchanging
pub mod Filling
pub mod Placing
pub mod Seeing
pub mod Steps

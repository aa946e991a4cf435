pub mod Made
pub mod Places
pub mod Readings
pub mod Reckoning
pub mod Rest
pub mod Spelling

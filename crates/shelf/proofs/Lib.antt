pub mod Lookup
pub mod Names

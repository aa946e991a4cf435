pub mod Tables
pub mod Words
pub mod Members
pub mod Steps

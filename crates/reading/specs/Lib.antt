pub mod Read
pub mod Parts
pub mod Addresses
pub mod Names
pub mod Commands
pub mod Views

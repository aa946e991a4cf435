pub mod Fitted
pub mod Found
pub mod Rows
pub mod Reached
pub mod Starts

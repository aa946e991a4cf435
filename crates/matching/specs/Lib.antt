pub mod Fitting
pub mod Matching
pub mod Rows

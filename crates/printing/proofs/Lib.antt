pub mod Digits
pub mod Ranging
pub mod Sheets

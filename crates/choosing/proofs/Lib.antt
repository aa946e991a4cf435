pub mod Choosing
pub mod Holding

pub mod Contents
pub mod Counting

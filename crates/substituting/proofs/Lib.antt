pub mod Piecing
pub mod Placing
pub mod Searching
pub mod Summing
pub mod Tallying
pub mod Through
pub mod Underway
pub mod Writing

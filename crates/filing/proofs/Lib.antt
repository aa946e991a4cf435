pub mod Adding
pub mod Loading
pub mod Sizes
pub mod Splitting

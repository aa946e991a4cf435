pub mod Loading
pub mod Typing

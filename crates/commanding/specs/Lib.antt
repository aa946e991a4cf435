pub mod Editing
pub mod Outcomes

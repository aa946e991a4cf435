pub mod Label
pub mod Name
pub mod Numbers
pub mod Shelf
pub mod Text

pub mod Numbers
pub mod Shelves
pub mod Marks
pub mod Said
pub mod Replacements
pub mod Lists
pub mod View

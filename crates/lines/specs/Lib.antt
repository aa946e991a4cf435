pub mod Line
pub mod Making
pub mod Numbers
pub mod Store

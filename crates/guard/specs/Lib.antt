pub mod Guarded
pub mod Making
pub mod Numbers

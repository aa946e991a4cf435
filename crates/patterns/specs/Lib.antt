pub mod Sets
pub mod Items
pub mod Reading
pub mod Bits
pub mod View
pub mod Behind

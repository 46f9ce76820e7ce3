pub mod Operators
pub mod Pointers

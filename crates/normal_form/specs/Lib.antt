pub mod Above
pub mod Empty
pub mod Grammar
pub mod Joins
pub mod Parts
pub mod Rows

pub mod Marks
pub mod Pick

pub mod Steps
pub mod GroupLaws
pub mod Behind

pub mod Sources
pub mod ReadBack

pub mod Reading
pub mod Showing
pub mod Places
pub mod Listed
pub mod Counts
pub mod Summing

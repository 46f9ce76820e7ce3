pub mod Imported
pub mod Kept
pub mod Left
pub mod Listed
pub mod Steps
pub mod Texts

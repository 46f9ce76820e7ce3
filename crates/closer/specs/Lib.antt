pub mod Continuation
pub mod Answers
pub mod NextManifest

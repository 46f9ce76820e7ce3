pub mod State
pub mod Answers
pub mod Walk
pub mod Program
pub mod Functions
pub mod Settings
pub mod Names

pub mod Words
pub mod Command
pub mod CutWords
pub mod ClapNumbers

pub mod Store
pub mod PartRead
pub mod Stream
pub mod Opened
pub mod Answers
pub mod Free
pub mod Copy

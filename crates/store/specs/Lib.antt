pub mod Import
pub mod NewStore

pub mod GraphLemmas
pub mod Spelled
pub mod NameLemmas

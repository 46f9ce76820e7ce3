pub mod MarkLemmas
pub mod PickLemmas

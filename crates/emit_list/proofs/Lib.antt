pub mod ListLemmas
pub mod TextLemmas
pub mod PrintLemmas
pub mod ReadLemmas

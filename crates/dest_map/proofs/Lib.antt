pub mod TableLemmas
pub mod CountLemmas

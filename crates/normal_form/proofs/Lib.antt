pub mod AboveLemmas
pub mod ApartLemmas
pub mod EmptyLemmas
pub mod JoinLemmas
pub mod NormalLemmas
pub mod RowLemmas
pub mod TableLemmas

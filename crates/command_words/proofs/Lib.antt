mod CutLemmas
mod NumberLemmas
mod GivenLemmas
mod KindLemmas
mod CutsLemmas
pub mod ReadingLemmas
mod AskLemmas

pub mod BoundsLemmas
pub mod DegreeLemmas

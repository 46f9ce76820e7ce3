-- Intervals cut by what their vertices count, as by their numbers of edges.
use Rattle.std.specs.Prelude.{◌≡◌, ℕ, ◌+◌, ◌<◌, ◌≤◌, ◌⊎◌, List, length, slice_range}
use Rattle.std.specs.Prelude.{sum}
use Rattle.intervals.specs.Bounds.{low_of, high_of, IsCut, vertices_of}

-- what the vertices from low to before high count together
abbrev pub degree_between : List ℕ → ℕ → ℕ → ℕ
degree_between counts low high = sum (slice_range counts low high)

-- an interval that takes its first vertex, and then each next one while the sum with it is at most the limit
pub record IsLongest (counts : List ℕ) (limit low high : ℕ) : Type 0 where
  pub first : low < high
  pub within : high ≤ length counts
  pub fits : (high ≡ low + 1) ⊎ (degree_between counts low high ≤ limit)
  pub full : high < length counts → limit < degree_between counts low (high + 1)

-- how many intervals there are at most
abbrev pub most_intervals : ℕ
most_intervals = 256

-- the vertices of the counts are cut into at most 256 intervals, each before the 256th as long as it can be. So the 256th takes all the rest.
pub record IsCutByDegree (counts : List ℕ) (limit : ℕ) (ends : List ℕ) : Type 0 where
  pub cut : IsCut ends
  pub whole : vertices_of ends ≡ length counts
  pub few : length ends ≤ most_intervals
  pub longest : (i : ℕ) → i < length ends → i + 1 < most_intervals → IsLongest counts limit (low_of ends i) (high_of ends i)

-- The vertices from 0 on, cut into intervals. A cut is the list of the intervals' ends, an end being the vertex behind its interval.
use Rattle.std.specs.Prelude.{ℕ, zero, suc, ◌<◌, ◌≤◌, List, [], ◌∷◌, length, slice_index, nat_le}
use Rattle.std.specs.Prelude.{count_by}

-- the vertex behind interval i
abbrev pub high_of : List ℕ → ℕ → ℕ
high_of ends i = slice_index ends i

-- the first vertex of interval i: the first interval begins at 0, and each other where the one before it ends
abbrev pub low_of : List ℕ → ℕ → ℕ
low_of ends zero = 0
low_of ends (suc i) = high_of ends i

-- no interval is empty, so the ends ascend from above 0
abbrev pub IsCut : List ℕ → Type 0
IsCut ends = (i : ℕ) → i < length ends → low_of ends i < high_of ends i

-- how many vertices the intervals have together: where one more interval would begin
abbrev pub vertices_of : List ℕ → ℕ
vertices_of ends = low_of ends (length ends)

-- the vertex v lies in interval i
pub record LiesIn (ends : List ℕ) (i v : ℕ) : Type 0 where
  pub number : i < length ends
  pub low : low_of ends i ≤ v
  pub high : v < high_of ends i

-- the number of the interval of the vertex v: so many intervals end before v or at it
abbrev pub interval_of : List ℕ → ℕ → ℕ
interval_of ends v = count_by (λ end. nat_le end v) ends

-- one interval with n vertices, and none where n is 0
abbrev pub whole_of : ℕ → List ℕ
whole_of zero = []
whole_of (suc n) = suc n ∷ []

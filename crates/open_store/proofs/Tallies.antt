-- What a manifest tells of edges that were counted.
use Rattle.std.proofs.Common.{◌≡◌, ℕ, ◌<◌, ◌≤◌, List, length, sym, ◌∙◌, ap, arith, inl, inr}
use Rattle.std.specs.Prelude.{slice_index_or, map, ◌==◌}
use Rattle.std.proofs.lemmas.List.{get_or_past, length-map}
use Rattle.std.proofs.lemmas.List.Sums.{count_by-le-length}
use Rattle.std.proofs.lemmas.Bool.{cases_lt}
use Rattle.graph_words.specs.declared.types.Born.{Born}
use Rattle.closing_machine.specs.State.{target}
use Rattle.dest_map.specs.Table.{counts_of}
use Rattle.pair_sched.specs.Marks.{newest_of}
use Rattle.manifest_codec.specs.declared.types.Manifest.{Manifest}
use Rattle.manifest_codec.specs.declared.types.PartEntry.{PartEntry}
use Rattle.store_law.specs.Listed.{ends_of}
use Rattle.open_store.specs.PartRead.{IsTold, count_into}
use Rattle.open_store.specs.Stream.{IsTally}

-- there is an end for each partition
pub ends_count : (m : Manifest) → length (ends_of m) ≡ length m.parts
ends_count m = length-map m.parts (λ (p : PartEntry). p.hi)

counted : (m : Manifest) (ends : List ℕ) (edges : List Born) (row : List ℕ) (newest : ℕ) → ends ≡ ends_of m → IsTally ends edges row newest → (j : ℕ) → j < length m.parts → slice_index_or row j 0 ≡ count_into (ends_of m) edges j
counted m ends edges row newest are tally j low =
    tally.counts j (omega (arith, low, ends_count m, ap length are)) ∙ ap (λ (l : List ℕ). count_into l edges j) are

-- a manifest with the numbers of a tally tells of its edges
pub told_by_tally : (m : Manifest) (i : ℕ) (ends : List ℕ) (edges : List Born) (row : List ℕ) (newest : ℕ) → ends ≡ ends_of m → IsTally ends edges row newest → ((j : ℕ) → j < length m.parts → counts_of m.map i j ≡ slice_index_or row j 0) → newest_of m.marks i ≡ newest → IsTold m i edges
told_by_tally m i ends edges row newest are tally same last =
    record { counts = λ j low. same j low ∙ counted m ends edges row newest are tally j low; newest = last ∙ tally.newest_is }

-- and where it tells of the edges, it has the numbers of their tally
pub row_of_told : (m : Manifest) (i : ℕ) (ends : List ℕ) (edges : List Born) (row : List ℕ) (newest : ℕ) → ends ≡ ends_of m → IsTally ends edges row newest → IsTold m i edges → (j : ℕ) → j < length m.parts → counts_of m.map i j ≡ slice_index_or row j 0
row_of_told m i ends edges row newest are tally told j low = told.counts j low ∙ sym (counted m ends edges row newest are tally j low)

pub newest_of_told : (m : Manifest) (i : ℕ) (ends : List ℕ) (edges : List Born) (row : List ℕ) (newest : ℕ) → IsTally ends edges row newest → IsTold m i edges → newest_of m.marks i ≡ newest
newest_of_told m i ends edges row newest tally told = told.newest ∙ sym tally.newest_is

-- no count is greater than how many edges there are
pub cell_few : (ends : List ℕ) (edges : List Born) (row : List ℕ) (newest : ℕ) → IsTally ends edges row newest → (j : ℕ) → slice_index_or row j 0 ≤ length edges
cell_few ends edges row newest t j = elim (cases_lt j (length ends)) [
  | inl low ↦ omega (arith, t.counts j low, count_by-le-length (λ (b : Born). target ends b == j) edges)
  | inr past ↦ omega (arith, get_or_past row j 0 (omega (arith, past, t.size)))
]

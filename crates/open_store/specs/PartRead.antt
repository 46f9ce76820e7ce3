-- What it is to read a partition of a store.
use Rattle.std.specs.Prelude.{◌≡◌, ℕ, ◌<◌, ◌⊎◌, ◌==◌, ◌&&◌, nat_lt, Bool, IsTrue, List, Some, count_by, length}
use Rattle.graph_words.specs.declared.types.Born.{Born}
use Rattle.closing_machine.specs.State.{greatest_birth, target}
use Rattle.faults.specs.declared.form_kind.FormKind.{FormKind}
use Rattle.faults.specs.declared.form_kind.FormKind.TheVariants.{Counts}
use Rattle.partition_file.specs.Spelling.{FitsPart, Part, SpellsPart, first_break}
use Rattle.dest_map.specs.Table.{counts_of}
use Rattle.pair_sched.specs.Marks.{newest_of}
use Rattle.manifest_codec.specs.declared.types.Manifest.{Manifest}
use Rattle.store_law.specs.Listed.{ends_of, part_of}
use Rattle.open_store.specs.Store.{OpenStore, expect_in}

-- how many of the edges end in interval j
abbrev pub count_into : List ℕ → List Born → ℕ → ℕ
count_into ends edges j = count_by (λ b. target ends b == j) edges

-- the manifest's row of counts for partition i and its newest birth are those of the edges
pub record IsTold (m : Manifest) (i : ℕ) (edges : List Born) : Type 0 where
  pub counts : (j : ℕ) → j < length m.parts → counts_of m.map i j ≡ count_into (ends_of m) edges j
  pub newest : newest_of m.marks i ≡ greatest_birth edges

-- the edges of partition i were read: they keep the rules of its format, the manifest tells of them, and the file spells them, where it is known
pub record IsRead (s : OpenStore) (i : ℕ) (tells : Bool) (file : List ℕ) (edges : List Born) : Type 0 where
  pub fits : FitsPart (expect_in s i) (part_of s.manifest i edges)
  pub told : IsTold s.manifest i edges
  pub spells : IsTrue tells → SpellsPart file (part_of s.manifest i edges)

-- the bytes are no file of partition i: a field breaks its rule, or the manifest tells of other edges, which counts as a break at the start
abbrev pub IsRefused : OpenStore → ℕ → List ℕ → ℕ → FormKind → Type 0
IsRefused s i file place kind =
    (first_break (expect_in s i) file ≡ Some (record { place = place; kind = kind }))
    ⊎ ((edges : List Born) × FitsPart (expect_in s i) (part_of s.manifest i edges)
    × SpellsPart file (part_of s.manifest i edges) × (IsTold s.manifest i edges → ⊥) × (place ≡ 0)
    × (kind ≡ Counts))

-- how many of the edges end in interval i below a vertex
abbrev pub count_below_of : List ℕ → ℕ → ℕ → List Born → ℕ
count_below_of ends i at edges = count_by (λ b. nat_lt b.edge.dst.0 at && target ends b == i) edges

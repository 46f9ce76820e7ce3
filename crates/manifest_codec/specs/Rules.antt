-- The rules of a manifest's fields.
use Rattle.std.specs.Prelude.{ℕ, ◌+◌, ◌-◌, ◌*◌, Bool, not, nat_lt, ◌==◌, ◌&&◌, ◌||◌, List, [], ◌∷◌, map, sum, codes}
use Rattle.std.specs.List.{flat_map, list_any}
use Rattle.byteorder.specs.Endian.{little_number}
use Rattle.manifest_codec.specs.declared.types.PartEntry.{PartEntry}
use Rattle.manifest_codec.specs.declared.types.Version.{Version}
use Rattle.manifest_codec.specs.declared.types.Version.TheVariants.{First}

abbrev pub at_most : ℕ → ℕ → Bool
at_most limit n = not (nat_lt limit n)

-- the version that is written
abbrev pub newest_version : Version
newest_version = First

-- the magic of a version, as a number
abbrev pub magic_of : Version → ℕ
magic_of First = little_number 4 (codes "GSM1")

-- where a version has the number of labels. The byte before the body, the gate, is at place 0.
abbrev pub labels_place : Version → ℕ
labels_place First = 34

abbrev pub is_magic : Version → ℕ → Bool
is_magic v n = n == magic_of v

abbrev pub is_generation : ℕ → Bool
is_generation n = at_most 2 n

abbrev pub is_round : ℕ → Bool
is_round n = nat_lt 0 n

abbrev pub is_vertices : ℕ → Bool
is_vertices n = at_most 16777216 n

abbrev pub is_grammar_len : ℕ → Bool
is_grammar_len n = at_most 16777216 n

abbrev pub is_edges_len : ℕ → Bool
is_edges_len n = at_most 1099511627776 n

abbrev pub is_label_count : ℕ → Bool
is_label_count n = at_most 1000 n

-- as many partitions as vertices allow, and none only where there is no vertex
abbrev pub is_part_count : ℕ → ℕ → Bool
is_part_count vertices k = at_most 256 k && at_most vertices k && (nat_lt 0 k || vertices == 0)

-- the end of a partition with `left` more behind it, above the end of the one before
abbrev pub is_end : ℕ → ℕ → ℕ → ℕ → Bool
is_end vertices left low hi = nat_lt low hi && at_most vertices hi && (nat_lt 0 left || hi == vertices)

-- a file that a partition may have, and none of those before has
abbrev pub is_file : List PartEntry → ℕ → Bool
is_file before file = at_most file 4 && at_most 1023 file && not (list_any (λ p. p.file == file) before)

-- a birth before the round
abbrev pub is_newest : ℕ → ℕ → Bool
is_newest round newest = nat_lt newest round

-- how many vertices each partition has, the first of which begins at low
abbrev pub widths : ℕ → List PartEntry → List ℕ
widths low [] = []
widths low (p ∷ parts) = (p.hi - low) ∷ widths p.hi parts

-- for each partition and each partition that its edges lead to, how many edges there can be: row after row
abbrev pub count_limits : List ℕ → List ℕ
count_limits ws = flat_map (λ a. map (λ b. a * b * 63000) ws) ws

-- the round is at most one more than the number of edges
abbrev pub is_reached : ℕ → List ℕ → Bool
is_reached round counts = at_most (1 + sum counts) round

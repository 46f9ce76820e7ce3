-- The rules of a manifest as reading asks them: field by field, by tests.
use Rattle.std.proofs.Common.{◌≡◌, ℕ, ◌*◌, ◌^◌, ◌<◌, not, List, [], ◌∷◌, ◌++◌, length, replicate}
use Rattle.std.specs.Prelude.{IsTrue}
use Rattle.graph_words.specs.Text.{is_label_word}
use Rattle.label_table.specs.Names.{has_name}
use Rattle.manifest_codec.specs.declared.types.PartEntry.{PartEntry}
use Rattle.manifest_codec.specs.declared.types.Head.{Head}
use Rattle.manifest_codec.specs.declared.types.Manifest.{Manifest}
use Rattle.manifest_codec.specs.Rules.{at_most, is_generation, is_round, is_vertices, is_grammar_len, is_edges_len, is_label_count, is_part_count, is_end, is_file, is_newest, widths, count_limits, is_reached}
use Rattle.manifest_codec.specs.Spelling.{head_of, newest_in}

pub record HeadFits (h : Head) : Type 0 where
  pub generation : IsTrue (is_generation h.generation)
  pub round : IsTrue (is_round h.round)
  pub vertices : IsTrue (is_vertices h.vertices)
  pub grammar_len : IsTrue (is_grammar_len h.grammar_len)
  pub edges_len : IsTrue (is_edges_len h.edges_len)
  pub first_len : h.first_len ≡ h.edges_len
  pub rounds : h.round < 2 ^ 64

-- each is a label, and none stands among those before
abbrev pub LabelsFit : List (List ℕ) → List (List ℕ) → Type 0
LabelsFit before [] = Unit {0}
LabelsFit before (l ∷ labels) = IsTrue (is_label_word l) × IsTrue (not (has_name before l)) × LabelsFit (before ++ l ∷ []) labels

-- the partitions behind those before, each with its newest birth
abbrev pub PartsFit : Head → ℕ → List PartEntry → List PartEntry → List ℕ → Type 0
PartsFit h low before [] [] = Unit {0}
PartsFit h low before (p ∷ parts) (n ∷ newest) =
    IsTrue (is_end h.vertices (length parts) low p.hi) × IsTrue (is_file before p.file) × IsTrue (is_newest h.round n) × PartsFit h p.hi (before ++ p ∷ []) parts newest
PartsFit h low before _ _ = ⊥

-- as many numbers as limits, each within its own
abbrev pub CellsFit : List ℕ → List ℕ → Type 0
CellsFit [] [] = Unit {0}
CellsFit (limit ∷ limits) (n ∷ cells) = IsTrue (at_most limit n) × (n < 2 ^ 64) × CellsFit limits cells
CellsFit _ _ = ⊥

-- a manifest keeps the rules
pub record Kept (m : Manifest) : Type 0 where
  pub head : HeadFits (head_of m)
  pub label_count : IsTrue (is_label_count (length m.labels))
  pub labels : LabelsFit [] m.labels
  pub part_count : IsTrue (is_part_count m.vertices (length m.parts))
  pub parts : PartsFit (head_of m) 0 [] m.parts (newest_in m)
  pub map_size : m.map.0 ≡ length m.parts
  pub marks_size : m.marks.0 ≡ length m.parts
  pub counts : CellsFit (count_limits (widths 0 m.parts)) m.map.1
  pub joined : CellsFit (replicate (length m.parts * length m.parts) m.round) m.marks.1
  pub reached : IsTrue (is_reached m.round m.map.1)

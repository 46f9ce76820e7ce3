-- A partition's file that was read to its end.
use Rattle.std.proofs.Common.{◌≡◌, ℕ, ◌+◌, ◌^◌, ◌<◌, ◌≤◌, List, [], ◌++◌, length, inr, refl, sym, ap, subst, ◌∙◌, arith}
use Rattle.std.specs.Prelude.{Bool, IsTrue, Some}
use Rattle.graph_words.specs.declared.types.Born.{Born}
use Rattle.faults.specs.declared.form_kind.FormKind.{FormKind}
use Rattle.faults.specs.declared.form_kind.FormKind.TheVariants.{Counts}
use Rattle.partition_file.specs.declared.types.Expect.{Expect}
use Rattle.partition_file.specs.Reader.{start}
use Rattle.partition_file.specs.FieldsRead.{reading}
use Rattle.partition_file.specs.Spelling.{FitsPart, Part, SpellsPart, IsBytes, found}
use Rattle.partition_file.proofs.FileLaws.{file_takes}
use Rattle.store_law.specs.Listed.{part_of}
use Rattle.open_store.specs.Store.{OpenStore, expect_in}
use Rattle.open_store.specs.PartRead.{IsRead, IsRefused, IsTold}
use Rattle.open_store.specs.Stream.{StreamEnds}

-- no byte was given yet
pub no_bytes : IsBytes []
no_bytes i = omega arith

-- what a file that ended gives is spelled by its bytes
pub ended_spells : (s : OpenStore) (i : ℕ) (tells : Bool) (file bytes : List ℕ) (edges : List Born) → (expect_in s i).lo < (expect_in s i).hi → StreamEnds (expect_in s i) tells file bytes edges → SpellsPart bytes (part_of s.manifest i edges) × FitsPart (expect_in s i) (part_of s.manifest i edges)
ended_spells s i tells file bytes edges bounds h = file_takes (expect_in s i) bytes edges bounds h.are_bytes h.few h.gives

pub ended_is_read : (s : OpenStore) (i : ℕ) (tells : Bool) (file bytes : List ℕ) (edges : List Born) → (expect_in s i).lo < (expect_in s i).hi → StreamEnds (expect_in s i) tells file bytes edges → IsTold s.manifest i edges → IsRead s i tells file edges
ended_is_read s i tells file bytes edges bounds h told =
    let both = ended_spells s i tells file bytes edges bounds h in
    record { fits = both.1; told = told; spells = λ t. subst (λ (l : List ℕ). SpellsPart l (part_of s.manifest i edges)) (h.front t) both.0 }

-- where the manifest tells of other edges, it is refused
pub ended_is_refused : (s : OpenStore) (i : ℕ) (tells : Bool) (file bytes : List ℕ) (edges : List Born) (place : ℕ) (kind : FormKind) → (expect_in s i).lo < (expect_in s i).hi → StreamEnds (expect_in s i) tells file bytes edges → (IsTold s.manifest i edges → ⊥) → place ≡ 0 → kind ≡ Counts → IsTrue tells → IsRefused s i file place kind
ended_is_refused s i tells file bytes edges place kind bounds h untold at counts t =
    let both = ended_spells s i tells file bytes edges bounds h in
    inr (edges, both.1, subst (λ (l : List ℕ). SpellsPart l (part_of s.manifest i edges)) (h.front t) both.0, untold, at, counts)

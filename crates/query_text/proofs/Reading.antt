-- Partitions that were read, one after the other.
use Rattle.std.proofs.Common.{◌≡◌, ℕ, zero, suc, ◌+◌, ◌*◌, ◌^◌, ◌<◌, ◌≤◌, List, [], ◌∷◌, ◌++◌, length, inl, inr, refl, sym, ap, ◌∙◌, subst, arith, length-append, append_assoc}
use Rattle.std.specs.Prelude.{Bool, slice_index_or}
use Rattle.std.proofs.lemmas.List.Elements.{All-contains}
use Rattle.graph_words.specs.declared.types.Born.{Born}
use Rattle.normal_form.proofs.NormalLemmas.{fresh_few}
use Rattle.closing_machine.specs.State.{EndsCut}
use Rattle.closing_machine.specs.Machine.{high, low}
use Rattle.closing_machine.specs.Parts.{all_edges}
use Rattle.closing_machine.specs.Capacity.{capacity}
use Rattle.closing_machine.proofs.Room.{capacity_bounds}
use Rattle.disk_model.specs.Disk.{Contents}
use Rattle.partition_file.specs.Spelling.{FitsEdge}
use Rattle.store_law.specs.Listed.{ends_of, part_file}
use Rattle.store_law.proofs.Intervals.{cut_from_cover}
use Rattle.open_store.specs.Store.{IsOpenStore, OpenStore, expect_in}
use Rattle.open_store.specs.PartRead.{IsRead}
use Rattle.query_text.specs.Answered.{AreRead}

pub all_edges-append : (xs ys : List (List Born)) → all_edges (xs ++ ys) ≡ all_edges xs ++ all_edges ys
all_edges-append [] ys = refl
all_edges-append (x ∷ xs) ys = ap (λ (l : List Born). x ++ l) (all_edges-append xs ys) ∙ sym (append_assoc x (all_edges xs) (all_edges ys))

-- no interval reaches past the last vertex
pub ends_within : (from top : ℕ) (ends : List ℕ) (i : ℕ) → EndsCut from ends top → from ≤ top × slice_index_or (from ∷ ends) i 0 ≤ top × slice_index_or ends i 0 ≤ top
ends_within from top [] zero cut = (omega arith, omega arith, omega arith)
ends_within from top [] (suc i) cut = (omega arith, omega arith, omega arith)
ends_within from top (e ∷ es) zero cut = let later = ends_within e top es zero cut.1 in (omega (arith, cut.0, later.0), omega (arith, cut.0, later.0), later.0)
ends_within from top (e ∷ es) (suc i) cut = let later = ends_within e top es i cut.1 in (omega (arith, cut.0, later.0), later.1, later.2)

-- two lists of partitions, the one behind the other, each numbered from first on
each_then : (P : ℕ → List Born → Type 0) (first : ℕ) (xs ys : List (List Born)) (k : ℕ) → ((j : ℕ) → j < length xs → P (first + j) (slice_index_or xs j [])) → ((j : ℕ) → j < length ys → P (first + length xs + j) (slice_index_or ys j [])) → k < length (xs ++ ys) → P (first + k) (slice_index_or (xs ++ ys) k [])
each_then P first [] ys k f g below = let e : first + 0 + k ≡ first + k = omega arith in subst (λ (n : ℕ). P n (slice_index_or ys k [])) e (g k below)
each_then P first (x ∷ xs) ys zero f g below = f 0 (omega arith)
each_then P first (x ∷ xs) ys (suc k) f g below =
    let e : (first + 1) + k ≡ first + suc k = omega arith in
    let front = λ (j : ℕ) (l : j < length xs). let a : first + suc j ≡ (first + 1) + j = omega arith in subst (λ (n : ℕ). P n (slice_index_or xs j [])) a (f (suc j) (omega (arith, l))) in
    let back = λ (j : ℕ) (l : j < length ys). let a : first + length (x ∷ xs) + j ≡ (first + 1) + length xs + j = omega arith in subst (λ (n : ℕ). P n (slice_index_or ys j [])) a (g j l) in
    subst (λ (n : ℕ). P n (slice_index_or (xs ++ ys) k [])) e (each_then P (first + 1) xs ys k front back (omega (arith, below)))

module _ (s : OpenStore) (tells : Bool) (c : Contents) where
  abbrev Reads : ℕ → List Born → Type 0
  Reads i edges = IsRead s i tells (c (part_file s.manifest i)) edges

  pub read_none : (first : ℕ) → first ≤ length s.manifest.parts → AreRead s tells c first []
  read_none first within = record { within = omega (arith, within); each = λ i below. absurd (omega (arith, below)) }

  -- one partition that was read
  one_each : (i : ℕ) (edges : List Born) (k : ℕ) → IsRead s i tells (c (part_file s.manifest i)) edges → k < 1 → IsRead s (i + k) tells (c (part_file s.manifest (i + k))) (slice_index_or (edges ∷ []) k [])
  one_each i edges zero is below = let e : i ≡ i + 0 = omega arith in subst (λ (n : ℕ). Reads n edges) e is
  one_each i edges (suc k) is below = absurd (omega (arith, below))

  pub read_one : (i : ℕ) (edges : List Born) → i < length s.manifest.parts → IsRead s i tells (c (part_file s.manifest i)) edges → AreRead s tells c i (edges ∷ [])
  read_one i edges there is = record { within = omega (arith, there); each = λ k below. one_each i edges k is below }

  pub read_then : (first : ℕ) (xs ys : List (List Born)) → AreRead s tells c first xs → AreRead s tells c (first + length xs) ys → AreRead s tells c first (xs ++ ys)
  read_then first xs ys a b =
      record {
        within = omega (arith, b.within, length-append xs ys);
        each = λ k below. each_then Reads first xs ys k a.each b.each below;
      }

  module _ (o : IsOpenStore s) where
    label_fits : (i : ℕ) (b : Born) → FitsEdge (expect_in s i) b → b.edge.label.0 < 63000
    label_fits i b f = elim f.known [ inl below ↦ omega (arith, below, o.fits.labels.short) | inr above ↦ omega (arith, above.1, fresh_few s.rules o.grammar) ]

    part_few : (i : ℕ) (edges : List Born) → Reads i edges → length edges ≤ capacity (low (ends_of s.manifest) i) (high (ends_of s.manifest) i)
    part_few i edges r =
        capacity_bounds (low (ends_of s.manifest) i) (high (ends_of s.manifest) i) edges r.fits.part.ascending
        (λ b m.
        let at = All-contains (λ (x : Born). (low (ends_of s.manifest) i ≤ x.edge.src.0) × (x.edge.src.0 < high (ends_of s.manifest) i)) edges b r.fits.part.within m in
        let fits = All-contains (FitsEdge (expect_in s i)) edges b r.fits.each m in
        record { above = at.0; below = at.1; label = label_fits i b fits; vertex = omega (arith, fits.vertex, o.fits.vertices) })

    all_few : (first : ℕ) (read : List (List Born)) → ((k : ℕ) → k < length read → Reads (first + k) (slice_index_or read k [])) → length (all_edges read) + low (ends_of s.manifest) first * 1056964608000 ≤ low (ends_of s.manifest) (first + length read) * 1056964608000
    all_few first [] each = let e : first ≡ first + 0 = omega arith in let same = ap (λ (n : ℕ). low (ends_of s.manifest) n) e in omega (arith, same)
    all_few first (p ∷ read) each =
        let zeroth : first + 0 ≡ first = omega arith in
        let is = subst (λ (n : ℕ). Reads n p) zeroth (each 0 (omega arith)) in
        let later = all_few (suc first) read (λ k below. let e : first + suc k ≡ suc first + k = omega arith in subst (λ (n : ℕ). Reads n (slice_index_or read k [])) e (each (suc k) (omega (arith, below)))) in
        let far : suc first + length read ≡ first + length (p ∷ read) = omega arith in
        let bounds : low (ends_of s.manifest) first < high (ends_of s.manifest) first = is.fits.part.bounds in
        let last = subst (λ (n : ℕ). length (all_edges read) + high (ends_of s.manifest) first * 1056964608000 ≤ low (ends_of s.manifest) n * 1056964608000) far later in
        omega (arith, part_few first p is, bounds, last, length-append p (all_edges read))

    pub few : (first : ℕ) (read : List (List Born)) → AreRead s tells c first read → length (all_edges read) < 2 ^ 64
    few first read r =
        let top = ends_within 0 s.manifest.vertices (ends_of s.manifest) (first + length read) (cut_from_cover s.manifest.vertices 0 s.manifest.parts o.fits.cover) in
        omega (arith, all_few first read r.each, top.1, o.fits.vertices)

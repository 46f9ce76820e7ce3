-- What the manifest after a step lists and tells of.
use Rattle.std.proofs.Common.{◌≡◌, ℕ, zero, suc, ◌+◌, ◌^◌, ◌<◌, ◌≤◌, ◌==◌, ◌⊎◌, ◌&&◌, Bool, true, false, cond, List, [], ◌∷◌, length, get_or, refl, sym, ap, ◌∙◌, subst, arith, inl, inr}
use Rattle.std.specs.Prelude.{Contains, slice_index_or, filter, count_by}
use Rattle.std.proofs.lemmas.List.Elements.{All-contains}
use Rattle.std.proofs.lemmas.List.Sums.{sum_by-cons}
use Rattle.graph_words.specs.declared.types.Born.{Born}
use Rattle.normal_law.specs.Closure.{Normal}
use Rattle.closing_machine.specs.State.{EndsCut, count, edges_of, greatest_birth, newest, part, target}
use Rattle.closing_machine.specs.Machine.{high, low}
use Rattle.closing_machine.specs.Parts.{ArePartitions, all_edges, state_of}
use Rattle.closing_machine.specs.Tells.{Tells}
use Rattle.closing_machine.proofs.Members.{All-from_members, either}
use Rattle.closing_machine.proofs.Partitions.{all_where_one, filter_partitions}
use Rattle.closing_machine.proofs.Room.{capacity_bounds}
use Rattle.disk_model.specs.Disk.{Contents}
use Rattle.partition_file.specs.Spelling.{FitsPart, FitsEdge, IsExpect, IsPart, Part, SpellsPart}
use Rattle.partition_file.proofs.FileLaws.{one_part}
use Rattle.dest_map.specs.Table.{counts_of}
use Rattle.pair_sched.specs.Marks.{joined_of, newest_of}
use Rattle.manifest_codec.specs.declared.types.Manifest.{Manifest}
use Rattle.manifest_codec.specs.Spelling.{FitsManifest}
use Rattle.store_law.specs.Listed.{AreListed, ends_of, expect_of, part_file, part_of, state_in}
use Rattle.store_law.proofs.Intervals.{listed_partitions}
use Rattle.open_store.specs.PartRead.{count_into}
use Rattle.open_store.proofs.Tallies.{ends_count}
use Rattle.closer.specs.Continuation.{CanBeRead}
use Rattle.closer.proofs.Bounds.{cut}
use Rattle.closer.proofs.Running.{IsKnown}
use Rattle.closer.proofs.Turning.{KeptIn, NewIn, Turns, parts_same}

-- ---- what a file spells is one partition

ends_within : (from top : ℕ) (ends : List ℕ) (i : ℕ) → EndsCut from ends top → (from ≤ top) × (slice_index_or (from ∷ ends) i 0 ≤ top) × (slice_index_or ends i 0 ≤ top)
ends_within from top [] zero cut = (omega arith, omega arith, omega arith)
ends_within from top [] (suc i) cut = (omega arith, omega arith, omega arith)
ends_within from top (e ∷ es) zero cut = let later = ends_within e top es zero cut.1 in (omega (arith, cut.0, later.0), omega (arith, cut.0, later.0), later.0)
ends_within from top (e ∷ es) (suc i) cut = let later = ends_within e top es i cut.1 in (omega (arith, cut.0, later.0), later.1, later.2)

pub expected : (m : Manifest) (fresh i : ℕ) → FitsManifest m → IsExpect (expect_of m fresh i)
expected m fresh i fits =
    let within = ends_within 0 m.vertices (ends_of m) i (cut m fits) in
    record {
      lo = omega (arith, within.1, fits.vertices);
      hi = omega (arith, within.2, fits.vertices);
      vertices = omega (arith, fits.vertices);
      round = fits.rounds;
    }

pub listed_here : (c : Contents) (m : Manifest) (fresh a : ℕ) (parts : List (List Born)) (p : Part) → FitsManifest m → AreListed c m fresh parts → a < length m.parts → p ≡ part_of m a p.edges → FitsPart (expect_of m fresh a) (part_of m a p.edges) → SpellsPart (c (part_file m a)) p → get_or parts a [] ≡ p.edges
listed_here c m fresh a parts p fits listed la is here spells =
    ap (λ (x : Part). x.edges)
    (one_part (expect_of m fresh a) (c (part_file m a)) (part_of m a (get_or parts a [])) (part_of m a p.edges) (expected m fresh a fits) (listed.fits a la) here (listed.spells a la) (subst (λ (x : Part). SpellsPart (c (part_file m a)) x) is spells))

-- ---- counts by partitions

count_filter : (p q : Born → Bool) (xs : List Born) → count_by (λ b. p b && q b) xs ≡ count_by q (filter p xs)
count_filter p q [] = refl
count_filter p q (x ∷ xs) =
    let r = count_filter p q xs in
    let c : count_by (λ b. p b && q b) (x ∷ xs) ≡ cond (p x && q x) 1 0 + count_by (λ b. p b && q b) xs = sum_by-cons (λ b. cond (p b && q b) 1 0) x xs in
    c ∙ by_test (p x) refl r
  where
    by_test : (t : Bool) → p x ≡ t → count_by (λ b. p b && q b) xs ≡ count_by q (filter p xs) → cond (p x && q x) 1 0 + count_by (λ b. p b && q b) xs ≡ count_by q (filter p (x ∷ xs))
    by_test true e r = let s = sum_by-cons (λ b. cond (q b) 1 0) x (filter p xs) in rw e (omega (arith, r, s))
    by_test false e r = rw e (omega (arith, r))

module _ (ends : List ℕ) (parts : List (List Born)) (top round : ℕ) (marks : ℕ → ℕ → ℕ) (is_cut : EndsCut 0 ends top) (are : ArePartitions 0 ends parts) where
  edges_here : (i : ℕ) → edges_of (state_of ends parts round marks) i ≡ get_or parts i []
  edges_here i = filter_partitions (λ (k : ℕ). k == i) 0 ends top parts is_cut are ∙ all_where_one parts i

  pub count_here : (i j : ℕ) → count (state_of ends parts round marks) i j ≡ count_into ends (get_or parts i []) j
  count_here i j = count_filter (λ b. part ends b == i) (λ b. target ends b == j) (all_edges parts) ∙ ap (λ (l : List Born). count_into ends l j) (edges_here i)

  pub newest_here : (i : ℕ) → newest (state_of ends parts round marks) i ≡ greatest_birth (get_or parts i [])
  newest_here i = ap greatest_birth (edges_here i)

-- ---- the partitions after a step

-- partition a is as it was, also on the disk
pub record StaysIn (m next : Manifest) (old new : Contents) (parts after : List (List Born)) (a : ℕ) : Type 0 where
  pub kept : KeptIn m next a
  pub same : get_or after a [] ≡ get_or parts a []
  pub file : new (part_file next a) ≡ old (part_file m a)

-- or it has new edges, and its file spells them
pub record ComesIn (n : Normal) (m next : Manifest) (new : Contents) (after : List (List Born)) (a : ℕ) : Type 0 where
  pub edges : List Born
  pub is_new : NewIn m next a edges
  pub is : get_or after a [] ≡ edges
  pub spelled : SpellsPart (new (part_file next a)) (part_of m a edges)
  pub known : (b : Born) → Contains edges b → IsKnown n (length m.labels) b.edge.label

module _ (n : Normal) (m next : Manifest) (fits : FitsManifest m) (i j k : ℕ) (t : Turns m next i j k) (room : m.round + k < 2 ^ 64) (fits_next : FitsManifest next) where
  same_part : (a : ℕ) (edges : List Born) → part_of m a edges ≡ part_of next a edges
  same_part a edges = ap (λ (l : List ℕ). record { lo = low l a; hi = high l a; edges = edges }) (sym t.ends)

  few_edges : (a : ℕ) (edges : List Born) → NewIn m next a edges → length edges < 2 ^ 64
  few_edges a edges x =
      let c =
      capacity_bounds (low (ends_of m) a) (high (ends_of m) a) edges x.part.ascending (λ b has.
      let s = All-contains (λ (y : Born). (low (ends_of m) a ≤ y.edge.src.0) × (y.edge.src.0 < high (ends_of m) a)) edges b x.part.within has in
      let l = All-contains (λ (y : Born). y.edge.label.0 < 63000) edges b x.labels has in
      let v = All-contains (λ (y : Born). y.edge.dst.0 < m.vertices) edges b x.vertices has in
      record { above = s.0; below = s.1; label = l; vertex = omega (arith, v, fits.vertices) }) in
      let w = ends_within 0 m.vertices (ends_of m) a (cut m fits) in
      let v = fits.vertices in
      omega (arith, c, w.2, v)

  old_edge : (a : ℕ) (b : Born) → FitsEdge (expect_of m n.fresh a) b → FitsEdge (expect_of next n.fresh a) b
  old_edge a b f =
      record {
        known = elim f.known [ inl lt ↦ inl (omega (arith, lt, ap length t.same.labels)) | inr fresh ↦ inr fresh ];
        number = f.number;
        vertex = omega (arith, f.vertex, t.same.vertices);
        earlier = omega (arith, f.earlier, t.round_is);
      }

  new_edge : (a : ℕ) (edges : List Born) → NewIn m next a edges → (b : Born) → Contains edges b → IsKnown n (length m.labels) b.edge.label → FitsEdge (expect_of next n.fresh a) b
  new_edge a edges x b has known =
      let l = All-contains (λ (y : Born). y.edge.label.0 < 63000) edges b x.labels has in
      let v = All-contains (λ (y : Born). y.edge.dst.0 < m.vertices) edges b x.vertices has in
      record {
        known = elim known [ inl lt ↦ inl (omega (arith, lt, ap length t.same.labels)) | inr fresh ↦ inr fresh ];
        number = omega (arith, l);
        vertex = omega (arith, v, t.same.vertices);
        earlier = All-contains (λ (y : Born). y.birth < next.round) edges b x.births has;
      }

  part_fits : (a : ℕ) (edges : List Born) → IsPart (part_of m a edges) → ((b : Born) → Contains edges b → FitsEdge (expect_of next n.fresh a) b) → length edges < 2 ^ 64 → FitsPart (expect_of next n.fresh a) (part_of next a edges)
  part_fits a edges is each_edge few =
      record {
        lo = refl;
        hi = refl;
        part = subst IsPart (same_part a edges) is;
        each = All-from_members (FitsEdge (expect_of next n.fresh a)) edges each_edge;
        few = few;
      }

  same_size : length next.parts ≡ length m.parts
  same_size = parts_same m next fits i j k t room

  -- a partition with new edges can be read
  pub comes_read : (new : Contents) (a : ℕ) (edges : List Born) → NewIn m next a edges → SpellsPart (new (part_file next a)) (part_of m a edges) → ((b : Born) → Contains edges b → IsKnown n (length m.labels) b.edge.label) → CanBeRead n next new a
  comes_read new a edges x spelled known =
      record {
        edges = edges;
        fits = part_fits a edges x.part (λ b has. new_edge a edges x b has (known b has)) (few_edges a edges x);
        spells = subst (λ (p : Part). SpellsPart (new (part_file next a)) p) (same_part a edges) spelled;
        told = record {
          counts = λ b lb. x.counts b (omega (arith, lb, same_size)) ∙ ap (λ (l : List ℕ). count_into l edges b) (sym t.ends);
          newest = x.newest;
        };
      }

  module _ (old new : Contents) (parts after : List (List Born)) (listed : AreListed old m n.fresh parts) (size : length after ≡ length parts) (each : (a : ℕ) → a < length m.parts → StaysIn m next old new parts after a ⊎ ComesIn n m next new after a) where
    fits_after : (a : ℕ) → a < length m.parts → FitsPart (expect_of next n.fresh a) (part_of next a (get_or after a []))
    fits_after a la =
        either
        (λ s.
        let f = listed.fits a la in
        subst (λ (l : List Born). FitsPart (expect_of next n.fresh a) (part_of next a l)) (sym s.same)
        (part_fits a (get_or parts a []) f.part (λ b has. old_edge a b (All-contains (FitsEdge (expect_of m n.fresh a)) (get_or parts a []) b f.each has)) f.few))
        (λ c. subst (λ (l : List Born). FitsPart (expect_of next n.fresh a) (part_of next a l)) (sym c.is) (part_fits a c.edges c.is_new.part (λ b has. new_edge a c.edges c.is_new b has (c.known b has)) (few_edges a c.edges c.is_new)))
        (each a la)

    spells_after : (a : ℕ) → a < length m.parts → SpellsPart (new (part_file next a)) (part_of next a (get_or after a []))
    spells_after a la =
        either
        (λ s.
        subst (λ (x : Part). SpellsPart (new (part_file next a)) x) (same_part a (get_or parts a []) ∙ ap (λ (l : List Born). part_of next a l) (sym s.same))
        (subst (λ (f : List ℕ). SpellsPart f (part_of m a (get_or parts a []))) (sym s.file) (listed.spells a la)))
        (λ c. subst (λ (x : Part). SpellsPart (new (part_file next a)) x) (same_part a c.edges ∙ ap (λ (l : List Born). part_of next a l) (sym c.is)) c.spelled)
        (each a la)

    pub listed_after : AreListed new next n.fresh after
    listed_after =
        record {
          size = size ∙ listed.size ∙ sym same_size;
          spells = λ a la. spells_after a (omega (arith, la, same_size));
          fits = λ a la. fits_after a (omega (arith, la, same_size));
        }

    module _ (tells : Tells (counts_of m.map) (joined_of m.marks) (newest_of m.marks) (state_in m parts)) where
      before_parts : ArePartitions 0 (ends_of m) parts
      before_parts = listed_partitions old m n.fresh parts listed

      after_parts : ArePartitions 0 (ends_of next) after
      after_parts = listed_partitions new next n.fresh after listed_after

      counts_after : (a b : ℕ) → a < length m.parts → b < length m.parts → counts_of next.map a b ≡ count (state_in next after) a b
      counts_after a b la lb =
          either
          (λ s. s.kept.counts b ∙ tells.count_is a b (omega (arith, la, ends_count m)) (omega (arith, lb, ends_count m)) ∙ count_here (ends_of m) parts m.vertices m.round (joined_of m.marks) (cut m fits) before_parts a b ∙ ap (λ (l : List Born). count_into (ends_of m) l b) (sym s.same))
          (λ c. c.is_new.counts b lb ∙ ap (λ (l : List Born). count_into (ends_of m) l b) (sym c.is)) (each a la)
          ∙ ap (λ (l : List ℕ). count_into l (get_or after a []) b) (sym t.ends)
          ∙ sym (count_here (ends_of next) after next.vertices next.round (joined_of next.marks) (cut next fits_next) after_parts a b)

      newest_after : (a : ℕ) → a < length m.parts → newest_of next.marks a ≡ newest (state_in next after) a
      newest_after a la =
          either
          (λ s. s.kept.newest ∙ tells.newest_is a (omega (arith, la, ends_count m)) ∙ newest_here (ends_of m) parts m.vertices m.round (joined_of m.marks) (cut m fits) before_parts a ∙ ap greatest_birth (sym s.same))
          (λ c. c.is_new.newest ∙ ap greatest_birth (sym c.is)) (each a la)
          ∙ sym (newest_here (ends_of next) after next.vertices next.round (joined_of next.marks) (cut next fits_next) after_parts a)

      pub tells_after : Tells (counts_of next.map) (joined_of next.marks) (newest_of next.marks) (state_in next after)
      tells_after =
          let e = ends_count next in
          record {
            count_is = λ a b la lb. counts_after a b (omega (arith, la, e, same_size)) (omega (arith, lb, e, same_size));
            mark_is = λ a b la lb. refl;
            newest_is = λ a la. newest_after a (omega (arith, la, e, same_size));
          }

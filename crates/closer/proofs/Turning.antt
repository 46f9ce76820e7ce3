-- A manifest in which some partitions have other edges.
use Rattle.std.proofs.Common.{◌≡◌, ℕ, ◌+◌, ◌-◌, ◌*◌, ◌^◌, ◌<◌, ◌≤◌, ◌⊎◌, ◌&&◌, Bool, true, false, cond, List, [], ◌∷◌, length, get_or, sym, ap, ◌∙◌, subst, arith}
use Rattle.std.specs.Prelude.{sum, map, All}
use Rattle.std.proofs.Math.Nat.{mod-lt}
use Rattle.std.proofs.lemmas.Bool.{cases_lt}
use Rattle.std.proofs.lemmas.List.Elements.{All-head, All-tail}
use Rattle.graph_words.specs.declared.types.Born.{Born}
use Rattle.closing_machine.specs.State.{EndsCut, IsDirtyBy, greatest_birth}
use Rattle.closing_machine.specs.Machine.{is_among}
use Rattle.closing_machine.specs.Measure.{dirty_pairs}
use Rattle.closing_machine.proofs.Falling.{dirty_bound, marking_falls}
use Rattle.closing_machine.proofs.Members.{either}
use Rattle.partition_file.specs.Spelling.{IsPart}
use Rattle.dest_map.specs.Table.{counts_of}
use Rattle.pair_sched.specs.Marks.{joined_of, newest_of}
use Rattle.manifest_codec.specs.declared.types.PartEntry.{PartEntry}
use Rattle.manifest_codec.specs.declared.types.Manifest.{Manifest}
use Rattle.manifest_codec.specs.Spelling.{Cover, FitsManifest, width}
use Rattle.manifest_codec.specs.Same.{AreOfSameTexts}
use Rattle.manifest_switch.specs.Slots.{next_generation}
use Rattle.store_law.specs.Listed.{ends_of, part_of}
use Rattle.open_store.specs.PartRead.{count_into}
use Rattle.open_store.proofs.Tallies.{ends_count}
use Rattle.closer.specs.Continuation.{work_of}
use Rattle.closer.specs.NextManifest.{IsWell}
use Rattle.closer.proofs.Bounds.{counts_fit, cut, width_is}

-- the tables tell of partition a what they told before
pub record KeptIn (m next : Manifest) (a : ℕ) : Type 0 where
  pub counts : (b : ℕ) → counts_of next.map a b ≡ counts_of m.map a b
  pub newest : newest_of next.marks a ≡ newest_of m.marks a

-- or they tell of these edges
pub record NewIn (m next : Manifest) (a : ℕ) (edges : List Born) : Type 0 where
  pub counts : (b : ℕ) → b < length m.parts → counts_of next.map a b ≡ count_into (ends_of m) edges b
  pub newest : newest_of next.marks a ≡ greatest_birth edges
  pub part : IsPart (part_of m a edges)
  pub labels : All (λ b. b.edge.label.0 < 63000) edges
  pub vertices : All (λ b. b.edge.dst.0 < m.vertices) edges
  pub births : All (λ b. b.birth < next.round) edges

-- all but the tables: k rounds later the pairs among i and j are marked
pub record Turns (m next : Manifest) (i j k : ℕ) : Type 0 where
  pub generation : next.generation ≡ next_generation m.generation
  pub round_is : next.round ≡ m.round + k
  pub same : AreOfSameTexts m next
  pub ends : ends_of next ≡ ends_of m
  pub well : IsWell next
  pub joined : (a b : ℕ) → joined_of next.marks a b ≡ cond (is_among i j a && is_among i j b) (m.round + k) (joined_of m.marks a b)

pub greatest_below : (bs : List Born) (r : ℕ) → 0 < r → All (λ b. b.birth < r) bs → greatest_birth bs < r
greatest_below [] r some all = some
greatest_below (b ∷ bs) r some all =
    let here : b.birth < r = All-head (λ (x : Born). x.birth < r) b bs all in
    let rest = greatest_below bs r some (All-tail (λ (x : Born). x.birth < r) b bs all) in
    omega arith

cover_from_cut : (top from : ℕ) (parts : List PartEntry) → EndsCut from (map (λ p. p.hi) parts) top → Cover top from parts
cover_from_cut top from [] cut = cut
cover_from_cut top from (p ∷ ps) cut = (cut.0, cover_from_cut top p.hi ps cut.1)

marked_within : (t : Bool) (x y r : ℕ) → x ≤ r → y ≤ r → cond t x y ≤ r
marked_within true x y r a b = a
marked_within false x y r a b = b

module _ (m next : Manifest) (fits : FitsManifest m) (i j k : ℕ) (t : Turns m next i j k) (room : m.round + k < 2 ^ 64) where
  pub parts_same : length next.parts ≡ length m.parts
  parts_same = sym (ends_count next) ∙ ap length t.ends ∙ ends_count m

  width_same : (a : ℕ) → a < length m.parts → width next a ≡ width m a
  width_same a la = width_is next a (omega (arith, la, parts_same)) ∙ ap (λ (l : List ℕ). get_or l a 0 - get_or (0 ∷ l) a 0) t.ends ∙ sym (width_is m a la)

  module _ (each : (a : ℕ) → a < length m.parts → KeptIn m next a ⊎ ((edges : List Born) × NewIn m next a edges)) (reached : m.round + k ≤ 1 + sum next.map.1) where
    counts_within : (a b : ℕ) → a < length m.parts → b < length m.parts → counts_of next.map a b ≤ width next a * width next b * 63000
    counts_within a b la lb =
        rw (width_same a la, width_same b lb)
        (either (λ kept. subst (λ (n : ℕ). n ≤ width m a * width m b * 63000) (sym (kept.counts b)) (fits.counts a b la lb))
        (λ new. subst (λ (n : ℕ). n ≤ width m a * width m b * 63000) (sym (new.1.counts b lb)) (counts_fit m fits a b new.0 la lb new.1.part new.1.labels new.1.vertices)) (each a la))

    newest_within : (a : ℕ) → a < length m.parts → newest_of next.marks a < next.round
    newest_within a la =
        let r = fits.round in
        let e = t.round_is in
        either (λ kept. let h = fits.newest a la in omega (arith, h, kept.newest, e)) (λ new. let h = greatest_below new.0 next.round (omega (arith, r, e)) new.1.births in omega (arith, h, new.1.newest)) (each a la)

    joined_within : (a b : ℕ) → a < length m.parts → b < length m.parts → joined_of next.marks a b ≤ next.round
    joined_within a b la lb =
        let h = fits.joined a b la lb in
        let e = t.round_is in
        let w = marked_within (is_among i j a && is_among i j b) (m.round + k) (joined_of m.marks a b) (m.round + k) (omega arith) (omega (arith, h)) in
        omega (arith, w, e, t.joined a b)

    pub next_fits : FitsManifest next
    next_fits =
        record {
          generation = let lt = mod-lt (m.generation + 1) {m = 3} (omega arith) in omega (arith, t.generation, lt);
          round = omega (arith, fits.round, t.round_is);
          rounds = omega (arith, room, t.round_is);
          vertices = omega (arith, fits.vertices, t.same.vertices);
          grammar_len = omega (arith, fits.grammar_len, t.same.grammar_len);
          edges_len = omega (arith, fits.edges_len, t.same.edges_len);
          first_len = t.same.first_len ∙ fits.first_len ∙ sym t.same.edges_len;
          labels = rw t.same.labels fits.labels;
          few = t.well.few;
          cover = cover_from_cut next.vertices 0 next.parts (rw (t.ends, t.same.vertices) (cut m fits));
          files = t.well.files;
          files_once = t.well.once;
          map = t.well.map;
          counts = λ a b la lb. counts_within a b (omega (arith, la, parts_same)) (omega (arith, lb, parts_same));
          reached = omega (arith, reached, t.round_is);
          marks = t.well.marks;
          newest = λ a la. newest_within a (omega (arith, la, parts_same));
          joined = λ a b la lb. joined_within a b (omega (arith, la, parts_same)) (omega (arith, lb, parts_same));
        }

  -- there is less work, since the round is later or the pair that had work left has none
  pub work_less : (k ≡ 0 → (a : ℕ) → a < length m.parts → KeptIn m next a) → i < length m.parts → j < length m.parts → IsDirtyBy (counts_of m.map) (joined_of m.marks) (newest_of m.marks) i j → work_of next < work_of m
  work_less kept li lj dirty =
      either
      (λ some.
      let d = dirty_bound (counts_of next.map) (joined_of next.marks) (newest_of next.marks) (length next.parts) t.well.few in
      omega (arith, d, t.round_is, room, some))
      (λ none.
      let z : k ≡ 0 = omega (arith, none) in
      let same = kept z in
      let f =
      marking_falls (counts_of m.map) (joined_of m.marks) (newest_of m.marks) (counts_of next.map) (joined_of next.marks) (newest_of next.marks) (length m.parts) (m.round + k) i j (λ a la. let h = fits.newest a la in omega (arith, h)) (λ a b la lb. (same a la).counts b) (λ a la. (same a la).newest) (λ a b la lb. t.joined a b) li lj dirty in
      let p : dirty_pairs (counts_of next.map) (joined_of next.marks) (newest_of next.marks) (length next.parts) ≡ dirty_pairs (counts_of next.map) (joined_of next.marks) (newest_of next.marks) (length m.parts) = ap (λ (n : ℕ). dirty_pairs (counts_of next.map) (joined_of next.marks) (newest_of next.marks) n) parts_same in
      omega (arith, f, p, t.round_is, z))
      (cases_lt 0 k)

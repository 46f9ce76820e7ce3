-- Each partition in the manifest after a step.
use Rattle.std.proofs.Common.{◌≡◌, ◌≢◌, ℕ, ◌+◌, ◌*◌, ◌<◌, ◌≤◌, ◌==◌, ◌⊎◌, Bool, true, false, List, ◌++◌, length, refl, sym, ap, ◌∙◌, subst, arith, inl, inr, length-append}
use Rattle.std.specs.Prelude.{sum, All, Contains}
use Rattle.std.proofs.lemmas.Bool.Decides.{nat_tests}
use Rattle.std.proofs.lemmas.List.Elements.{All-contains, Contains-append_cases, Contains-append_left, Contains-append_right}
use Rattle.graph_words.specs.declared.types.Born.{Born}
use Rattle.normal_law.specs.NormalForm.{normal_form}
use Rattle.closing_machine.specs.State.{greatest_birth}
use Rattle.closing_machine.specs.Rounds.{Rounds}
use Rattle.closing_machine.specs.Machine.{is_among}
use Rattle.closing_machine.proofs.Falling.{no_rounds}
use Rattle.closing_machine.proofs.Going.{rounds_longer}
use Rattle.closing_machine.proofs.Members.{All-from_members, either}
use Rattle.partition_file.specs.Spelling.{FitsEdge, IsPart, Part}
use Rattle.dest_map.specs.Table.{counts_of}
use Rattle.pair_sched.specs.Marks.{newest_of}
use Rattle.manifest_codec.specs.declared.types.Manifest.{Manifest}
use Rattle.manifest_codec.specs.Spelling.{FitsManifest}
use Rattle.store_law.specs.Listed.{ends_of, part_of}
use Rattle.superstep.specs.Room.{IsInFormat}
use Rattle.open_store.specs.PartRead.{count_into}
use Rattle.open_store.specs.Store.{OpenStore, expect_in}
use Rattle.open_store.proofs.Tallies.{ends_count}
use Rattle.closer.specs.NextManifest.{IsMarked, IsPartIn, TakesOn}
use Rattle.closer.proofs.Bounds.{map_total, row_total}
use Rattle.closer.proofs.Nexting.{ends_start, in_part, kept_start, size_start}
use Rattle.closer.proofs.Running.{born_before, vertices_stay}
use Rattle.closer.proofs.Sums.{row_sum, sum_changed, sum_same, table_sum, two_changed}
use Rattle.closer.proofs.Turning.{KeptIn, NewIn, Turns}
use Rattle.closer.proofs.SameTexts.{same_further}

pub is_it : (x y : ℕ) → (x ≡ y) ⊎ (x ≢ y)
is_it x y = by_test (x == y) refl
  where
    by_test : (t : Bool) → (x == y) ≡ t → (x ≡ y) ⊎ (x ≢ y)
    by_test true e = inl (grind (arith, nat_tests))
    by_test false e = inr (λ same. let h : (x == y) ≡ true = grind (arith, nat_tests) in absurd (cc))

pub among_first : (i j : ℕ) → is_among i j i ≡ true
among_first i j = grind (arith, nat_tests)

pub among_second : (i j : ℕ) → is_among i j j ≡ true
among_second i j = grind (arith, nat_tests)

-- what each of the loaded edges keeps
pub edge_fits : (s : OpenStore) (a : ℕ) (p : Part) → IsPartIn s a p → (b : Born) → Contains p.edges b → FitsEdge (expect_in s a) b
edge_fits s a p x b has = All-contains (FitsEdge (expect_in s a)) p.edges b x.fits.each has

-- the scalars of a manifest that takes on other edges
took : (m start next : Manifest) (i j k round a : ℕ) (edges : List Born) → Turns m start i j k → TakesOn round a edges start next → Turns m next i j k
took m start next i j k round a edges t o =
    record {
      generation = o.generation ∙ t.generation;
      round_is = o.round_is ∙ t.round_is;
      same = same_further m start next t.same o.same;
      ends = o.ends ∙ t.ends;
      well = o.well;
      joined = λ x y. o.joined x y ∙ t.joined x y;
    }

module _ (s : OpenStore) (fits : FitsManifest s.manifest) (i j k : ℕ) (start : Manifest) (marked : IsMarked s.manifest i j k start) (turned : Turns s.manifest start i j k) where
  -- the edges after the rounds
  module _ (edges rows : List Born) (since last : ℕ) (r : Rounds (normal_form s.rules) edges since s.manifest.round k rows last) (old : (b : Born) → Contains edges b → (b.edge.dst.0 < s.manifest.vertices) × (b.birth < s.manifest.round)) (format : All IsInFormat rows) where
    new_in : (next : Manifest) (a : ℕ) (p' : Part) → next.round ≡ s.manifest.round + k → p' ≡ part_of s.manifest a p'.edges → IsPart p' → ((b : Born) → Contains p'.edges b → Contains rows b) → ((b : ℕ) → b < length s.manifest.parts → counts_of next.map a b ≡ count_into (ends_of s.manifest) p'.edges b)
        → newest_of next.marks a ≡ greatest_birth p'.edges → NewIn s.manifest next a p'.edges
    new_in next a p' round p'-is part among counts newest =
        record {
          counts = counts;
          newest = newest;
          part = in_part s.manifest a p' p'-is part;
          labels = All-from_members (λ (b : Born). b.edge.label.0 < 63000) p'.edges (λ b has. (All-contains IsInFormat rows b format (among b has)).label);
          vertices = All-from_members (λ (b : Born). b.edge.dst.0 < s.manifest.vertices) p'.edges (λ b has. vertices_stay (normal_form s.rules) edges since s.manifest.round k last rows r s.manifest.vertices (λ c m. (old c m).0) b (among b has));
          births = All-from_members (λ (b : Born). b.birth < next.round) p'.edges (λ b has. let h = born_before (normal_form s.rules) edges since s.manifest.round k last rows r (λ c m. (old c m).1) b (among b has) in omega (arith, h, round));
        }

    -- no round adds nothing
    none_new : k ≡ 0 → (b : Born) → Contains rows b → b.birth < s.manifest.round
    none_new none b has = (old b (subst (λ (l : List Born). Contains l b) (no_rounds r none) has)).1

  -- ---- one partition

  module _ (a : ℕ) (p p' : Part) (x : IsPartIn s a p) (since last : ℕ) (r : Rounds (normal_form s.rules) p.edges since s.manifest.round k p'.edges last) (p'-is : p' ≡ part_of s.manifest a p'.edges) (part : IsPart p') (format : All IsInFormat p'.edges) (next : Manifest) (t : TakesOn s.manifest.round a p'.edges start next) where
    old_one : (b : Born) → Contains p.edges b → (b.edge.dst.0 < s.manifest.vertices) × (b.birth < s.manifest.round)
    old_one b has = let f = edge_fits s a p x b has in (f.vertex, f.earlier)

    pub turns_one : Turns s.manifest next i j k
    turns_one = took s.manifest start next i j k s.manifest.round a p'.edges turned t

    counts_one : (b : ℕ) → b < length s.manifest.parts → counts_of next.map a b ≡ count_into (ends_of s.manifest) p'.edges b
    counts_one b lb = t.counts b (omega (arith, lb, size_start s.manifest fits i j k start marked)) ∙ ap (λ (l : List ℕ). count_into l p'.edges b) (ends_start s.manifest fits i j k start marked)

    pub new_one : NewIn s.manifest next a p'.edges
    new_one = new_in p.edges p'.edges since last r old_one format next a p' turns_one.round_is p'-is part (λ b has. has) counts_one t.newest

    pub kept_one : (z : ℕ) → z ≢ a → KeptIn s.manifest next z
    kept_one z ne =
        let h = kept_start s.manifest fits i j k start marked z in
        record { counts = λ b. t.other_counts z b ne ∙ h.counts b; newest = t.other_newest z ne ∙ h.newest }

    pub each_one : (z : ℕ) → z < length s.manifest.parts → KeptIn s.manifest next z ⊎ ((edges : List Born) × NewIn s.manifest next z edges)
    each_one z lz = either (λ e. inr (p'.edges, subst (λ (y : ℕ). NewIn s.manifest next y p'.edges) (sym e) new_one)) (λ ne. inl (kept_one z ne)) (is_it z a)

    pub still_one : k ≡ 0 → (z : ℕ) → z < length s.manifest.parts → KeptIn s.manifest next z
    still_one none z lz =
        subst (λ (y : Manifest). KeptIn s.manifest y z) (sym (t.kept (All-from_members (λ (b : Born). b.birth < s.manifest.round) p'.edges (none_new p.edges p'.edges since last r old_one format none)))) (kept_start s.manifest fits i j k start marked z)

    pub reached_one : s.manifest.round + k ≤ 1 + sum next.map.1
    reached_one =
        let K = length s.manifest.parts in
        let size = sym (ends_count next) ∙ ap (λ (l : List ℕ). length l) turns_one.ends ∙ ends_count s.manifest in
        let sums = table_sum next.map K (t.well.map.size ∙ size) (t.well.map.rows ∙ ap (λ (y : ℕ). y * y) size) in
        let c = sum_changed (row_sum s.manifest.map K) (row_sum next.map K) K a x.there (λ z lz ne. sum_same (λ b. counts_of next.map z b) (λ b. counts_of s.manifest.map z b) K (λ b lb. (kept_one z ne).counts b)) in
        let o = row_total s.manifest fits s.manifest.map a p.edges x.told.counts (All-from_members (λ (b : Born). b.edge.dst.0 < s.manifest.vertices) p.edges (λ b has. (old_one b has).0)) in
        let w = row_total s.manifest fits next.map a p'.edges counts_one new_one.vertices in
        let g = rounds_longer (normal_form s.rules) p.edges since s.manifest.round r in
        let m = map_total s.manifest fits in
        let f = fits.reached in
        omega (arith, sums, c, o, w, g, m, f)

  -- ---- two partitions

  module _ (a z : ℕ) (apart : a < z) (p q p' q' : Part) (x : IsPartIn s a p) (y : IsPartIn s z q) (since last : ℕ) (r : Rounds (normal_form s.rules) (p.edges ++ q.edges) since s.manifest.round k (p'.edges ++ q'.edges) last) (p'-is : p' ≡ part_of s.manifest a p'.edges) (q'-is : q' ≡ part_of s.manifest z q'.edges) (p'-part : IsPart p') (q'-part : IsPart q') (format : All IsInFormat (p'.edges ++ q'.edges)) (mid next : Manifest)
      (t : TakesOn s.manifest.round a p'.edges start mid) (u : TakesOn s.manifest.round z q'.edges mid next) where
    old_two : (b : Born) → Contains (p.edges ++ q.edges) b → (b.edge.dst.0 < s.manifest.vertices) × (b.birth < s.manifest.round)
    old_two b has =
        either (λ h. let f = edge_fits s a p x b h in (f.vertex, f.earlier)) (λ h. let f = edge_fits s z q y b h in (f.vertex, f.earlier)) (Contains-append_cases p.edges q.edges b has)

    turns_mid : Turns s.manifest mid i j k
    turns_mid = took s.manifest start mid i j k s.manifest.round a p'.edges turned t

    pub turns_two : Turns s.manifest next i j k
    turns_two = took s.manifest mid next i j k s.manifest.round z q'.edges turns_mid u

    not_high : a ≢ z
    not_high e = omega arith

    counts_low : (b : ℕ) → b < length s.manifest.parts → counts_of next.map a b ≡ count_into (ends_of s.manifest) p'.edges b
    counts_low b lb = u.other_counts a b not_high ∙ t.counts b (omega (arith, lb, size_start s.manifest fits i j k start marked)) ∙ ap (λ (l : List ℕ). count_into l p'.edges b) (ends_start s.manifest fits i j k start marked)

    counts_high : (b : ℕ) → b < length s.manifest.parts → counts_of next.map z b ≡ count_into (ends_of s.manifest) q'.edges b
    counts_high b lb =
        let size = sym (ends_count mid) ∙ ap (λ (l : List ℕ). length l) turns_mid.ends ∙ ends_count s.manifest in
        u.counts b (omega (arith, lb, size)) ∙ ap (λ (l : List ℕ). count_into l q'.edges b) turns_mid.ends

    pub new_low : NewIn s.manifest next a p'.edges
    new_low = new_in (p.edges ++ q.edges) (p'.edges ++ q'.edges) since last r old_two format next a p' turns_two.round_is p'-is p'-part (λ b has. Contains-append_left p'.edges q'.edges b has) counts_low (u.other_newest a not_high ∙ t.newest)

    pub new_high : NewIn s.manifest next z q'.edges
    new_high = new_in (p.edges ++ q.edges) (p'.edges ++ q'.edges) since last r old_two format next z q' turns_two.round_is q'-is q'-part (λ b has. Contains-append_right p'.edges q'.edges b has) counts_high u.newest

    pub kept_two : (c : ℕ) → c ≢ a → c ≢ z → KeptIn s.manifest next c
    kept_two c ne nz =
        let h = kept_start s.manifest fits i j k start marked c in
        record { counts = λ b. u.other_counts c b nz ∙ t.other_counts c b ne ∙ h.counts b; newest = u.other_newest c nz ∙ t.other_newest c ne ∙ h.newest }

    pub each_two : (c : ℕ) → c < length s.manifest.parts → KeptIn s.manifest next c ⊎ ((edges : List Born) × NewIn s.manifest next c edges)
    each_two c lc =
        either (λ e. inr (p'.edges, subst (λ (v : ℕ). NewIn s.manifest next v p'.edges) (sym e) new_low)) (λ ne. either (λ e. inr (q'.edges, subst (λ (v : ℕ). NewIn s.manifest next v q'.edges) (sym e) new_high)) (λ nz. inl (kept_two c ne nz)) (is_it c z)) (is_it c a)

    pub still_two : k ≡ 0 → (c : ℕ) → c < length s.manifest.parts → KeptIn s.manifest next c
    still_two none c lc =
        let all = none_new (p.edges ++ q.edges) (p'.edges ++ q'.edges) since last r old_two format none in
        let one = t.kept (All-from_members (λ (b : Born). b.birth < s.manifest.round) p'.edges (λ b has. all b (Contains-append_left p'.edges q'.edges b has))) in
        let two = u.kept (All-from_members (λ (b : Born). b.birth < s.manifest.round) q'.edges (λ b has. all b (Contains-append_right p'.edges q'.edges b has))) in
        subst (λ (v : Manifest). KeptIn s.manifest v c) (sym (two ∙ one)) (kept_start s.manifest fits i j k start marked c)

    pub reached_two : s.manifest.round + k ≤ 1 + sum next.map.1
    reached_two =
        let K = length s.manifest.parts in
        let size = sym (ends_count next) ∙ ap (λ (l : List ℕ). length l) turns_two.ends ∙ ends_count s.manifest in
        let sums = table_sum next.map K (u.well.map.size ∙ size) (u.well.map.rows ∙ ap (λ (v : ℕ). v * v) size) in
        let c = two_changed (row_sum s.manifest.map K) (row_sum next.map K) K a z apart y.there (λ v lv ne nz. sum_same (λ b. counts_of next.map v b) (λ b. counts_of s.manifest.map v b) K (λ b lb. (kept_two v ne nz).counts b)) in
        let o = row_total s.manifest fits s.manifest.map a p.edges x.told.counts (All-from_members (λ (b : Born). b.edge.dst.0 < s.manifest.vertices) p.edges (λ b has. (edge_fits s a p x b has).vertex)) in
        let e = row_total s.manifest fits s.manifest.map z q.edges y.told.counts (All-from_members (λ (b : Born). b.edge.dst.0 < s.manifest.vertices) q.edges (λ b has. (edge_fits s z q y b has).vertex)) in
        let w = row_total s.manifest fits next.map a p'.edges counts_low new_low.vertices in
        let v = row_total s.manifest fits next.map z q'.edges counts_high new_high.vertices in
        let g = rounds_longer (normal_form s.rules) (p.edges ++ q.edges) since s.manifest.round r in
        let m = map_total s.manifest fits in
        let f = fits.reached in
        let l = length-append p.edges q.edges in
        let n = length-append p'.edges q'.edges in
        omega (arith, sums, c, o, e, w, v, g, m, f, l, n)

-- A step goes on from the store before.
use Rattle.std.proofs.Common.{◌≡◌, ◌≢◌, ℕ, ◌+◌, ◌^◌, ◌<◌, ◌≤◌, ◌==◌, ◌||◌, ◌⊎◌, ◌&&◌, Bool, true, false, cond, List, [], ◌++◌, length, get_or, refl, sym, ap, ◌∙◌, subst, arith, inl, inr}
use Rattle.std.specs.Prelude.{All, Contains, slice_set}
use Rattle.std.proofs.lemmas.List.{get_or-set_other, get_or-set_same, length-set}
use Rattle.std.proofs.lemmas.List.Elements.{Contains-append_cases, Contains-append_left, Contains-append_right}
use Rattle.graph_words.specs.declared.types.Born.{Born}
use Rattle.normal_law.specs.Closure.{Normal}
use Rattle.normal_law.specs.NormalForm.{normal_form}
use Rattle.closing_machine.specs.State.{IsPick, State, count}
use Rattle.closing_machine.specs.Chain.{IsLeastMark}
use Rattle.closing_machine.specs.Rounds.{Rounds}
use Rattle.closing_machine.specs.Machine.{IsSuperstep, high, is_among, low, mark_after}
use Rattle.closing_machine.specs.PairRun.{IsPairRun}
use Rattle.closing_machine.specs.Parts.{IsPartition, state_of}
use Rattle.closing_machine.specs.Tells.{Tells}
use Rattle.closing_machine.proofs.Members.{either}
use Rattle.closing_machine.proofs.Storing.{superstep_on_one, superstep_on_two}
use Rattle.closing_machine.proofs.Swapping.{superstep_swap}
use Rattle.closing_machine.proofs.Telling.{pick_told}
use Rattle.disk_model.specs.Disk.{Contents}
use Rattle.partition_file.specs.Spelling.{IsPart, Part, SpellsPart}
use Rattle.dest_map.specs.Table.{counts_of}
use Rattle.pair_sched.specs.Marks.{joined_of, newest_of}
use Rattle.manifest_codec.specs.declared.types.PartEntry.{PartEntry}
use Rattle.manifest_codec.specs.declared.types.Manifest.{Manifest}
use Rattle.manifest_codec.specs.Spelling.{FitsManifest}
use Rattle.store_law.specs.Listed.{AreListed, ends_of, part_file, part_of, state_in}
use Rattle.store_law.proofs.Intervals.{listed_partitions}
use Rattle.superstep.specs.Room.{IsInFormat}
use Rattle.open_store.specs.Store.{IsOpenStore, OpenStore}
use Rattle.open_store.proofs.Tallies.{ends_count}
use Rattle.closer.specs.Continuation.{AfterSteps, CanBeRead, Continues, IsUntouched}
use Rattle.closer.specs.NextManifest.{IsLeastMarkIn, IsMarked, IsOrderedPair, IsPartIn, Puts, TakesOn}
use Rattle.closer.proofs.Bounds.{cut}
use Rattle.closer.proofs.Flat.{edge_fits, is_it, kept_one, kept_two, new_high, new_low, new_one, turns_one, turns_two}
use Rattle.closer.proofs.Listing.{ComesIn, StaysIn, comes_read, listed_after, listed_here, tells_after}
use Rattle.closer.proofs.Least.{least_told}
use Rattle.closer.proofs.Nexting.{file_start, in_part}
use Rattle.closer.proofs.Running.{IsKnown, joins_known, labels_stay}
use Rattle.closer.proofs.Turning.{NewIn, Turns}
use Rattle.store_law.proofs.Keeping.{keeps_copies}

-- a superstep whose first round goes over joins since a birth
abbrev Since : Normal → ℕ → ℕ → ℕ → ℕ → State → State → Type 0
Since n since i j k before after = (st : IsSuperstep n i j k true before after) × (st.since ≡ since)

turned_pair : (n : Normal) (since i j low high k : ℕ) (before after : State) → IsOrderedPair i j low high → Since n since low high k before after → Since n since i j k before after
turned_pair n since i j low high k before after (le, inl same) st = subst (λ (x : ℕ). Since n since x j k before after) same.0 (subst (λ (y : ℕ). Since n since low y k before after) same.1 st)
turned_pair n since i j low high k before after (le, inr same) st =
    let w = superstep_swap n low high k true before after st.0 in
    subst (λ (x : ℕ). Since n since x j k before after) same.1 (subst (λ (y : ℕ). Since n since high y k before after) same.0 (w.0, w.1 ∙ st.1))

pub among_turned : (i j low high a : ℕ) → IsOrderedPair i j low high → is_among i j a ≡ is_among low high a
among_turned i j low high a (le, inl same) = rw (same.0, same.1) refl
among_turned i j low high a (le, inr same) = rw (same.0, same.1) (swapped (a == i) (a == j))
  where
    swapped : (p q : Bool) → (p || q) ≡ (q || p)
    swapped true true = refl
    swapped true false = refl
    swapped false true = refl
    swapped false false = refl

in_partition : (m : Manifest) (a : ℕ) (edges : List Born) → IsPart (part_of m a edges) → IsPartition (low (ends_of m) a) (high (ends_of m) a) edges
in_partition m a edges is = record { ordered = is.ascending; sources = is.within }

module _ (s : OpenStore) (is : IsOpenStore s) (left : All (λ r. r.left.0 < length s.manifest.labels) s.rules) (i j first last k since : ℕ) (least : IsLeastMarkIn s.manifest i j since) (ordered : IsOrderedPair i j first last) (start : Manifest) (marked : IsMarked s.manifest i j k start) (turned : Turns s.manifest start i j k) (room : s.manifest.round + k < 2 ^ 64)
    (pick : IsPick (counts_of s.manifest.map) (joined_of s.manifest.marks) (newest_of s.manifest.marks) (length s.manifest.parts) i j) (old : Contents) where
  abbrev n : Normal
  n = normal_form s.rules

  abbrev m : Manifest
  m = s.manifest

  known_rows : (edges rows : List Born) (l : ℕ) → Rounds n edges since m.round k rows l → ((b : Born) → Contains edges b → IsKnown n (length m.labels) b.edge.label) → (b : Born) → Contains rows b → IsKnown n (length m.labels) b.edge.label
  known_rows edges rows l r known = labels_stay n edges since m.round k l rows r (IsKnown n (length m.labels)) (joins_known s.rules (length m.labels) is.grammar left) known

  -- the state after the marks
  state_after : (next : Manifest) (parts : List (List Born)) → Turns m next i j k → state_of (ends_of m) parts (m.round + k) (joined_of next.marks) ≡ state_in next parts
  state_after next parts t = λ x. state_of (sym t.ends x) parts (sym t.round_is x) (joined_of next.marks)

  marks_after : (next : Manifest) → Turns m next i j k → (a b : ℕ) → joined_of next.marks a b ≡ cond (is_among first last a && is_among first last b) (mark_after true (joined_of m.marks a b) (m.round + k)) (joined_of m.marks a b)
  marks_after next t a b = t.joined a b ∙ (λ x. cond (among_turned i j first last a ordered x && among_turned i j first last b ordered x) (m.round + k) (joined_of m.marks a b))

  -- the tables tell of the state
  abbrev IsTold : List (List Born) → Type 0
  IsTold parts = Tells (counts_of m.map) (joined_of m.marks) (newest_of m.marks) (state_in m parts)

  -- what is born below the least mark is joined
  marked_since : (parts : List (List Born)) → IsTold parts → (low high : ℕ) → IsOrderedPair i j low high → (a b : ℕ) → is_among low high a ≡ true → is_among low high b ≡ true → 0 < count (state_in m parts) a b → since ≤ joined_of m.marks a b
  marked_since parts tells low high turn a b ea eb some =
      (least_told m parts i j since tells (omega (arith, pick.first_below, ends_count m)) (omega (arith, pick.second_below, ends_count m)) least).least a b (among_turned i j low high a turn ∙ ea) (among_turned i j low high b turn ∙ eb) some

  one_step : (next : Manifest) (parts after : List (List Born)) → IsTold parts → Since n since i j k (state_in m parts) (state_in next after) → AfterSteps n 1 (state_in m parts) (state_in next after)
  one_step next parts after tells st = (
    state_in m parts,
    refl,
    record {
      i = i;
      j = j;
      rounds = k;
      pick = pick_told (counts_of m.map) (joined_of m.marks) (newest_of m.marks) (state_in m parts) tells i j (subst (λ (x : ℕ). IsPick (counts_of m.map) (joined_of m.marks) (newest_of m.marks) x i j) (sym (ends_count m)) pick);
      step = st.0;
      begins = subst (IsLeastMark (state_in m parts) i j) (sym st.1) (least_told m parts i j since tells (omega (arith, pick.first_below, ends_count m)) (omega (arith, pick.second_below, ends_count m)) least);
    },
  )

  -- ---- one partition
  module _ (same : first ≡ last) (p p' : Part) (x : IsPartIn s first p) (spelled : SpellsPart (old (part_file m first)) p) (run : (budget : ℕ) → length p'.edges ≤ budget → IsPairRun n p.edges since m.round budget true k p'.edges) (p'-is : p' ≡ part_of m first p'.edges) (part : IsPart p') (format : All IsInFormat p'.edges) (next : Manifest)
      (t : TakesOn m.round first p'.edges start next) (new : Contents) (put : Puts m first p' start next old new) (fits_next : FitsManifest next) where
    r1 : IsPairRun n p.edges since m.round (length p'.edges) true k p'.edges
    r1 = run (length p'.edges) (omega arith)

    t1 : Turns m next i j k
    t1 = turns_one s is.fits i j k start marked turned first p p' x since r1.last r1.rounds p'-is part format next t

    known_one : (b : Born) → Contains p'.edges b → IsKnown n (length m.labels) b.edge.label
    known_one = known_rows p.edges p'.edges r1.last r1.rounds (λ b has. (edge_fits s first p x b has).known)

    case_one : (parts : List (List Born)) → AreListed old m n.fresh parts → (a : ℕ) → a < length m.parts → StaysIn m next old new parts (slice_set parts first p'.edges) a ⊎ ComesIn n m next new (slice_set parts first p'.edges) a
    case_one parts listed a la =
        either
        (λ e. inr
        (record {
          edges = p'.edges;
          is_new = subst (λ (z : ℕ). NewIn m next z p'.edges) (sym e) (new_one s is.fits i j k start marked turned first p p' x since r1.last r1.rounds p'-is part format next t);
          is = ap (λ (z : ℕ). get_or (slice_set parts first p'.edges) z []) e ∙ get_or-set_same parts first p'.edges [] (omega (arith, x.there, listed.size));
          spelled = subst (λ (z : ℕ). SpellsPart (new (part_file next z)) (part_of m z p'.edges)) (sym e) (subst (λ (z : Part). SpellsPart (new (part_file next first)) z) p'-is put.spelled);
          known = known_one;
        }))
        (λ ne. inl
        (record {
          kept = kept_one s is.fits i j k start marked turned first p p' x since r1.last r1.rounds p'-is part format next t a ne;
          same = get_or-set_other parts first a p'.edges [] ne;
          file = ap new (t.other_files a ne ∙ file_start m is.fits i j k start marked a) ∙ put.spares.parts a la;
        }))
        (is_it a first)

    step_one : (parts : List (List Born)) → AreListed old m n.fresh parts → IsTold parts → Since n since i j k (state_in m parts) (state_in next (slice_set parts first p'.edges))
    step_one parts listed tells =
        let here : get_or parts first [] ≡ p.edges = listed_here old m n.fresh first parts p is.fits listed x.there x.part_is x.fits spelled in
        let alone : IsOrderedPair i j first first = subst (λ (z : ℕ). IsOrderedPair i j first z) (sym same) ordered in
        turned_pair n since i j first first k (state_in m parts) (state_in next (slice_set parts first p'.edges)) alone
        (subst (λ (z : State). Since n since first first k (state_in m parts) z) (state_after next (slice_set parts first p'.edges) t1)
        (superstep_on_one n (ends_of m) parts m.vertices m.round (joined_of m.marks) (cut m is.fits) (listed_partitions old m n.fresh parts listed) first (omega (arith, x.there, ends_count m)) since (length p'.edges) k true p'.edges
        (subst (λ (l : List Born). IsPairRun n l since m.round (length p'.edges) true k p'.edges) (sym here) r1) (in_partition m first p'.edges (in_part m first p' p'-is part)) (joined_of next.marks)
        (subst (λ (z : ℕ). (a b : ℕ) → joined_of next.marks a b ≡ cond (is_among first z a && is_among first z b) (mark_after true (joined_of m.marks a b) (m.round + k)) (joined_of m.marks a b)) (sym same) (marks_after next t1)) (λ a b ea eb some. marked_since parts tells first first alone a b ea eb some)))

    part_one : (a : ℕ) → a < length m.parts → IsUntouched m old next new a ⊎ CanBeRead n next new a
    part_one a la =
        either
        (λ e. inr
        (subst (λ (z : ℕ). CanBeRead n next new z) (sym e)
        (comes_read n m next is.fits i j k t1 room fits_next new first p'.edges (new_one s is.fits i j k start marked turned first p p' x since r1.last r1.rounds p'-is part format next t)
        (subst (λ (z : Part). SpellsPart (new (part_file next first)) z) p'-is put.spelled) known_one)))
        (λ ne.
        let kept = kept_one s is.fits i j k start marked turned first p p' x since r1.last r1.rounds p'-is part format next t a ne in
        let file = t.other_files a ne ∙ file_start m is.fits i j k start marked a in
        inl (record { file = file; bytes = ap new file ∙ put.spares.parts a la; counts = kept.counts; newest = kept.newest }))
        (is_it a first)

    pub goes_on_one : Continues n 1 old m new next
    goes_on_one =
        record {
          fits = fits_next;
          same = t1.same;
          ends = t1.ends;
          later = omega (arith, t1.round_is);
          parts = part_one;
          copies = keeps_copies m old new (put.spares.below 2 (omega arith)) (put.spares.below 3 (omega arith));
          steps = λ parts listed tells.
              let after = slice_set parts first p'.edges in
              let size = length-set parts first p'.edges in
              (after, listed_after n m next is.fits i j k t1 room fits_next old new parts after listed size (case_one parts listed), tells_after n m next is.fits i j k t1 room fits_next old new parts after listed size (case_one parts listed) tells, one_step next parts after tells (step_one parts listed tells));
        }

  -- ---- two partitions
  module _ (apart : first < last) (p q p' q' : Part) (x : IsPartIn s first p) (y : IsPartIn s last q) (p-spelled : SpellsPart (old (part_file m first)) p) (q-spelled : SpellsPart (old (part_file m last)) q) (run : (budget : ℕ) → length (p'.edges ++ q'.edges) ≤ budget → IsPairRun n (p.edges ++ q.edges) since m.round budget true k (p'.edges ++ q'.edges)) (p'-is : p' ≡ part_of m first p'.edges)
      (q'-is : q' ≡ part_of m last q'.edges) (p'-part : IsPart p') (q'-part : IsPart q') (format : All IsInFormat (p'.edges ++ q'.edges)) (mid next : Manifest) (t : TakesOn m.round first p'.edges start mid) (u : TakesOn m.round last q'.edges mid next) (between new : Contents) (put : Puts m first p' start mid old between) (put' : Puts m last q' mid next between new) (fits_next : FitsManifest next) where
    r2 : IsPairRun n (p.edges ++ q.edges) since m.round (length (p'.edges ++ q'.edges)) true k (p'.edges ++ q'.edges)
    r2 = run (length (p'.edges ++ q'.edges)) (omega arith)

    t2 : Turns m next i j k
    t2 = turns_two s is.fits i j k start marked turned first last apart p q p' q' x y since r2.last r2.rounds p'-is q'-is p'-part q'-part format mid next t u

    known_two : (b : Born) → Contains (p'.edges ++ q'.edges) b → IsKnown n (length m.labels) b.edge.label
    known_two =
        known_rows (p.edges ++ q.edges) (p'.edges ++ q'.edges) r2.last r2.rounds (λ b has. either (λ h. (edge_fits s first p x b h).known) (λ h. (edge_fits s last q y b h).known) (Contains-append_cases p.edges q.edges b has))

    abbrev after_two : List (List Born) → List (List Born)
    after_two parts = slice_set (slice_set parts first p'.edges) last q'.edges

    not_last : first ≢ last
    not_last e = omega arith

    size_mid : length start.parts ≡ length m.parts
    size_mid = ap (λ (l : List PartEntry). length l) marked.parts

    low_file : new (part_file next first) ≡ between (part_file mid first)
    low_file = ap new (u.other_files first not_last) ∙ put'.others first (omega (arith, x.there, sym (ends_count mid) ∙ ap length t.ends ∙ ends_count start ∙ size_mid)) not_last

    case_two : (parts : List (List Born)) → AreListed old m n.fresh parts → (a : ℕ) → a < length m.parts → StaysIn m next old new parts (after_two parts) a ⊎ ComesIn n m next new (after_two parts) a
    case_two parts listed a la =
        either
        (λ e. inr
        (record {
          edges = p'.edges;
          is_new = subst (λ (z : ℕ). NewIn m next z p'.edges) (sym e) (new_low s is.fits i j k start marked turned first last apart p q p' q' x y since r2.last r2.rounds p'-is q'-is p'-part q'-part format mid next t u);
          is = ap (λ (z : ℕ). get_or (after_two parts) z []) e ∙ get_or-set_other (slice_set parts first p'.edges) last first q'.edges [] not_last ∙ get_or-set_same parts first p'.edges [] (omega (arith, x.there, listed.size));
          spelled = subst (λ (z : ℕ). SpellsPart (new (part_file next z)) (part_of m z p'.edges)) (sym e) (subst (λ (z : Part). SpellsPart (new (part_file next first)) z) p'-is (subst (λ (f : List ℕ). SpellsPart f p') (sym low_file) put.spelled));
          known = λ b has. known_two b (Contains-append_left p'.edges q'.edges b has);
        }))
        (λ ne.
        either
        (λ e. inr
        (record {
          edges = q'.edges;
          is_new = subst (λ (z : ℕ). NewIn m next z q'.edges) (sym e) (new_high s is.fits i j k start marked turned first last apart p q p' q' x y since r2.last r2.rounds p'-is q'-is p'-part q'-part format mid next t u);
          is = ap (λ (z : ℕ). get_or (after_two parts) z []) e ∙ get_or-set_same (slice_set parts first p'.edges) last q'.edges [] (omega (arith, y.there, listed.size, length-set parts first p'.edges));
          spelled = subst (λ (z : ℕ). SpellsPart (new (part_file next z)) (part_of m z q'.edges)) (sym e) (subst (λ (z : Part). SpellsPart (new (part_file next last)) z) q'-is put'.spelled);
          known = λ b has. known_two b (Contains-append_right p'.edges q'.edges b has);
        }))
        (λ nz. inl
        (record {
          kept = kept_two s is.fits i j k start marked turned first last apart p q p' q' x y since r2.last r2.rounds p'-is q'-is p'-part q'-part format mid next t u a ne nz;
          same = get_or-set_other (slice_set parts first p'.edges) last a q'.edges [] nz ∙ get_or-set_other parts first a p'.edges [] ne;
          file = ap new (u.other_files a nz ∙ t.other_files a ne ∙ file_start m is.fits i j k start marked a) ∙ put'.spares.parts a la ∙ put.spares.parts a la;
        }))
        (is_it a last))
        (is_it a first)

    step_two : (parts : List (List Born)) → AreListed old m n.fresh parts → IsTold parts → Since n since i j k (state_in m parts) (state_in next (after_two parts))
    step_two parts listed tells =
        let one : get_or parts first [] ≡ p.edges = listed_here old m n.fresh first parts p is.fits listed x.there x.part_is x.fits p-spelled in
        let two : get_or parts last [] ≡ q.edges = listed_here old m n.fresh last parts q is.fits listed y.there y.part_is y.fits q-spelled in
        turned_pair n since i j first last k (state_in m parts) (state_in next (after_two parts)) ordered
        (subst (λ (z : State). Since n since first last k (state_in m parts) z) (state_after next (after_two parts) t2)
        (superstep_on_two n (ends_of m) parts m.vertices m.round (joined_of m.marks) (cut m is.fits) (listed_partitions old m n.fresh parts listed) first last apart (omega (arith, y.there, ends_count m)) since (length (p'.edges ++ q'.edges)) k true p'.edges q'.edges
        (subst (λ (l : List Born). IsPairRun n l since m.round (length (p'.edges ++ q'.edges)) true k (p'.edges ++ q'.edges)) (λ z. sym one z ++ sym two z) r2) (in_partition m first p'.edges (in_part m first p' p'-is p'-part)) (in_partition m last q'.edges (in_part m last q' q'-is q'-part)) (joined_of next.marks) (marks_after next t2)
        (λ a b ea eb some. marked_since parts tells first last ordered a b ea eb some)))

    part_two : (a : ℕ) → a < length m.parts → IsUntouched m old next new a ⊎ CanBeRead n next new a
    part_two a la =
        either
        (λ e. inr
        (subst (λ (z : ℕ). CanBeRead n next new z) (sym e)
        (comes_read n m next is.fits i j k t2 room fits_next new first p'.edges (new_low s is.fits i j k start marked turned first last apart p q p' q' x y since r2.last r2.rounds p'-is q'-is p'-part q'-part format mid next t u)
        (subst (λ (z : Part). SpellsPart (new (part_file next first)) z) p'-is (subst (λ (f : List ℕ). SpellsPart f p') (sym low_file) put.spelled))
        (λ b has. known_two b (Contains-append_left p'.edges q'.edges b has)))))
        (λ ne.
        either
        (λ e. inr
        (subst (λ (z : ℕ). CanBeRead n next new z) (sym e)
        (comes_read n m next is.fits i j k t2 room fits_next new last q'.edges (new_high s is.fits i j k start marked turned first last apart p q p' q' x y since r2.last r2.rounds p'-is q'-is p'-part q'-part format mid next t u)
        (subst (λ (z : Part). SpellsPart (new (part_file next last)) z) q'-is put'.spelled)
        (λ b has. known_two b (Contains-append_right p'.edges q'.edges b has)))))
        (λ nz.
        let kept = kept_two s is.fits i j k start marked turned first last apart p q p' q' x y since r2.last r2.rounds p'-is q'-is p'-part q'-part format mid next t u a ne nz in
        let file = u.other_files a nz ∙ t.other_files a ne ∙ file_start m is.fits i j k start marked a in
        inl (record { file = file; bytes = ap new file ∙ put'.spares.parts a la ∙ put.spares.parts a la; counts = kept.counts; newest = kept.newest }))
        (is_it a last))
        (is_it a first)

    pub goes_on_two : Continues n 1 old m new next
    goes_on_two =
        record {
          fits = fits_next;
          same = t2.same;
          ends = t2.ends;
          later = omega (arith, t2.round_is);
          parts = part_two;
          copies = keeps_copies m old new (put'.spares.below 2 (omega arith) ∙ put.spares.below 2 (omega arith)) (put'.spares.below 3 (omega arith) ∙ put.spares.below 3 (omega arith));
          steps = λ parts listed tells.
              let after = after_two parts in
              let size = length-set (slice_set parts first p'.edges) last q'.edges ∙ length-set parts first p'.edges in
              (after, listed_after n m next is.fits i j k t2 room fits_next old new parts after listed size (case_two parts listed), tells_after n m next is.fits i j k t2 room fits_next old new parts after listed size (case_two parts listed) tells, one_step next parts after tells (step_two parts listed tells));
        }

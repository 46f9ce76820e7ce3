-- There is room for the rounds on loaded partitions.
use Rattle.std.proofs.Common.{◌≡◌, ℕ, ◌+◌, ◌-◌, ◌*◌, ◌^◌, ◌<◌, ◌≤◌, Bool, true, List, ◌++◌, length, sym, ap, ◌∙◌, subst, arith, Option, Some, None, length-append}
use Rattle.std.specs.Prelude.{All, Contains}
use Rattle.std.proofs.lemmas.List.Elements.{Contains-append_cases}
use Rattle.graph_words.specs.declared.types.Born.{Born}
use Rattle.normal_law.specs.Closure.{Normal}
use Rattle.normal_law.specs.NormalForm.{normal_form}
use Rattle.normal_form.proofs.NormalLemmas.{fresh_few}
use Rattle.closing_machine.specs.Capacity.{capacity}
use Rattle.closing_machine.specs.PairRun.{IsPairRun}
use Rattle.closing_machine.proofs.Going.{rounds_longer}
use Rattle.closing_machine.proofs.Members.{All-from_members, either}
use Rattle.partition_file.specs.Spelling.{IsPart, Part}
use Rattle.manifest_codec.specs.Spelling.{width}
use Rattle.store_law.specs.Listed.{ends_of}
use Rattle.row_table.specs.Loaded.{IsLoaded, Loaded, StandsBehind, loaded_of}
use Rattle.superstep.specs.Room.{IsInFormat, capacity_of}
use Rattle.superstep.proofs.RoomLemmas.{fits}
use Rattle.open_store.specs.Store.{IsOpenStore, OpenStore}
use Rattle.open_store.proofs.Tallies.{ends_count}
use Rattle.closer.specs.NextManifest.{ArePairIn, AreRun, IfHigh, IsPartIn}
use Rattle.closer.proofs.Bounds.{cut, label_fits, room_one, room_two, row_total, width_is}
use Rattle.closer.proofs.Flat.{edge_fits}
use Rattle.closer.proofs.Running.{cut_apart}
use Rattle.closer.proofs.Sums.{row_sum}

-- the same run, by equal names
pub run_moved : (n n' : Normal) (xs ys : List Born) (since r r' budget : ℕ) (b : Bool) (k k' : ℕ) (rows : List Born) → n ≡ n' → xs ≡ ys → r ≡ r' → b ≡ true → k ≡ k' → IsPairRun n xs since r budget b k rows → IsPairRun n' ys since r' budget true k' rows
run_moved n n' xs ys since r r' budget b k k' rows en ex er eb ek run =
    subst (λ (y : Normal). IsPairRun y ys since r' budget true k' rows) en
    (subst (λ (y : List Born). IsPairRun n y since r' budget true k' rows) ex (subst (λ (y : ℕ). IsPairRun n xs since y budget true k' rows) er (subst (λ (y : Bool). IsPairRun n xs since r budget y k' rows) eb (subst (λ (y : ℕ). IsPairRun n xs since r budget b y rows) ek run))))

module _ (s : OpenStore) (is : IsOpenStore s) where
  pub stands : (i j : ℕ) (p : Part) (q : Option Part) → ArePairIn s i j p q → StandsBehind p q
  stands i j p None pair = record {}
  stands i j p (Some q) pair =
      let h = cut_apart 0 (ends_of s.manifest) s.manifest.vertices i j (cut s.manifest is.fits) pair.0 (let y = pair.2.there in omega (arith, y, ends_count s.manifest)) in
      let one = ap (λ (x : Part). x.hi) pair.1.part_is in
      let two = ap (λ (x : Part). x.lo) pair.2.part_is in
      omega (arith, h, one, two)

  in_format : (a : ℕ) (p : Part) → IsPartIn s a p → (b : Born) → Contains p.edges b → IsInFormat b
  in_format a p x b has =
      let f = edge_fits s a p x b has in
      let v = f.vertex in
      let w = is.fits.vertices in
      record { label = label_fits s.manifest (normal_form s.rules).fresh a b is.fits.labels.short (fresh_few s.rules is.grammar) f; vertex = omega (arith, v, w) }

  pub format : (i j : ℕ) (p : Part) (q : Option Part) → ArePairIn s i j p q → All IsInFormat (loaded_of p q).edges
  format i j p None pair = All-from_members IsInFormat p.edges (in_format i p pair.1)
  format i j p (Some q) pair = All-from_members IsInFormat (p.edges ++ q.edges) (λ b has. either (in_format i p pair.1 b) (in_format j q pair.2 b) (Contains-append_cases p.edges q.edges b has))

  row_is : (a : ℕ) (p : Part) → IsPartIn s a p → row_sum s.manifest.map (length s.manifest.parts) a ≡ length p.edges
  row_is a p x = row_total s.manifest is.fits s.manifest.map a p.edges x.told.counts (All-from_members (λ (b : Born). b.edge.dst.0 < s.manifest.vertices) p.edges (λ b has. (edge_fits s a p x b has).vertex))

  capacity_is : (a : ℕ) (p : Part) → IsPartIn s a p → capacity p.lo p.hi ≡ width s.manifest a * (63000 * 16777216)
  capacity_is a p x =
      (λ i. capacity (ap (λ (y : Part). y.lo) x.part_is i) (ap (λ (y : Part). y.hi) x.part_is i)) ∙ ap (λ (w : ℕ). w * (63000 * 16777216)) (sym (width_is s.manifest a x.there))

  pub room : (i j : ℕ) (p : Part) (q : Option Part) → ArePairIn s i j p q → s.manifest.round + (capacity_of (loaded_of p q) - length (loaded_of p q).edges) < 2 ^ 64
  room i j p None pair =
      let r = room_one s.manifest is.fits i (length p.edges) pair.1.there (row_is i p pair.1) in
      let c = capacity_is i p pair.1 in
      omega (arith, r, c)
  room i j p (Some q) pair =
      let r = room_two s.manifest is.fits i j (length p.edges) (length q.edges) pair.0 pair.2.there (row_is i p pair.1) (row_is j q pair.2) in
      let c = capacity_is i p pair.1 in
      let d = capacity_is j q pair.2 in
      let l = length-append p.edges q.edges in
      omega (arith, r, c, d, l)

  -- the partitions after the rounds
  pub are_run : (since i j k : ℕ) (p : Part) (q : Option Part) (p' : Part) (q' : Option Part) (rows : Loaded) → ArePairIn s i j p q → loaded_of p' q' ≡ rows → rows.low ≡ (loaded_of p q).low → rows.high ≡ (loaded_of p q).high → IsLoaded rows → IsPart p' → IfHigh q' IsPart → All IsInFormat rows.edges
      → ((budget : ℕ) → length rows.edges ≤ budget → IsPairRun (normal_form s.rules) (loaded_of p q).edges since s.manifest.round budget true k rows.edges) → AreRun (normal_form s.rules) since s.manifest.round p q p' q' k
  are_run since i j k p q p' q' rows pair same low_same high_same loaded p'-part q'-part all run =
      let r = run (length rows.edges) (omega arith) in
      let g = rounds_longer (normal_form s.rules) (loaded_of p q).edges since s.manifest.round r.rounds in
      let f = fits rows loaded all in
      let m = room i j p q pair in
      let c : capacity_of rows ≡ capacity_of (loaded_of p q) = λ x. capacity_of (record { low = low_same x; high = high_same x; edges = rows.edges }) in
      record {
        low_is = ap (λ (l : Loaded). l.low) same ∙ low_same;
        high_is = ap (λ (l : Loaded). l.high) same ∙ high_same;
        low_part = p'-part;
        high_part = q'-part;
        run = subst (λ (l : Loaded). (budget : ℕ) → length l.edges ≤ budget → IsPairRun (normal_form s.rules) (loaded_of p q).edges since s.manifest.round budget true k l.edges) (sym same) run;
        format = subst (λ (l : Loaded). All IsInFormat l.edges) (sym same) all;
        room = omega (arith, g, f, m, c);
      }

-- What the loop of rounds knows before each round.
use Rattle.std.proofs.Common.{◌≡◌, ℕ, suc, ◌+◌, ◌-◌, ◌^◌, ◌<◌, ◌≤◌, Bool, true, false, List, [], ◌∷◌, ◌++◌, ◌==◌, length, refl, sym, ap, ◌∙◌, subst, arith, length-append}
use Rattle.std.specs.Prelude.{All, Contains}
use Rattle.std.proofs.lemmas.Bool.{cases_lt}
use Rattle.std.proofs.lemmas.Bool.Decides.{nat_tests}
use Rattle.std.proofs.lemmas.List.Elements.{All-contains}
use Rattle.std.proofs.lemmas.List.Sorted.{length_permutation}
use Rattle.graph_words.specs.declared.types.Vertex.{Vertex}
use Rattle.graph_words.specs.declared.types.LabelId.{LabelId}
use Rattle.graph_words.specs.declared.types.Edge.{Edge}
use Rattle.graph_words.specs.declared.types.Born.{Born}
use Rattle.normal_law.specs.Closure.{Normal}
use Rattle.normal_law.specs.Closed.{Joins}
use Rattle.closing_machine.specs.Rounds.{born, all_born, IsCandidate, IsJoin, IsRound, Rounds, begun, again}
use Rattle.closing_machine.specs.PairRun.{IsPairRun}
use Rattle.closing_machine.proofs.Members.{either, All-from_members}
use Rattle.closing_machine.proofs.Rounding.{all_joined, rounds_joined, rounds_keep}
use Rattle.closing_machine.proofs.Going.{rounds_longer}
use Rattle.closing_machine.proofs.Determined.{same_rounds}
use Rattle.row_table.specs.Loaded.{Loaded, IsLoaded, IsRow, Absorbs}
use Rattle.superstep.specs.Joined.{AreJoined, AreJoinedBelow}
use Rattle.superstep.specs.Room.{IsInFormat, capacity_of}
use Rattle.superstep.proofs.RoomLemmas.{fits}

-- a round's edges begin where loaded edges begin
pub new_sources : (n : Normal) (rows : Loaded) (since : ℕ) (new : List Edge) → IsLoaded rows → IsRound n rows.edges since new → All (λ e. IsRow rows e.src.0) new
new_sources n rows since new loaded is = All-from_members (λ (e : Edge). IsRow rows e.src.0) new source
  where
    source : (e : Edge) → Contains new e → IsRow rows e.src.0
    source e m =
        let c = (All-contains (λ (e : Edge). (x : Vertex) × IsCandidate n rows.edges since x e) new e is.joins m).1 in
        let h = All-contains (λ (b : Born). IsRow rows b.edge.src.0) rows.edges c.first loaded.sources c.has_first in
        subst (λ (v : Vertex). IsRow rows v.0) (sym c.join.source) h

module _ (n : Normal) (start : List Born) (since birth : ℕ) where
  -- fewer rounds leave no more edges
  pub rounds_shorter : {k last : ℕ} {rows : List Born} → Rounds n start since birth k rows last → {j other : ℕ} {mid : List Born} → Rounds n start since birth j mid other → j ≤ k → length mid ≤ length rows
  rounds_shorter begun {mid = mid} q le =
      let same = (same_rounds n start since birth begun q (omega arith)).0 in
      let e : length start ≡ length mid = ap length same in
      omega arith
  rounds_shorter (again {k = k} {rows = rows} {after = after} new r is some o) {j = j} {mid = mid} q le =
      either
      (λ lt.
      let h : length mid ≤ length rows = rounds_shorter r q (omega arith) in
      let l : length after ≡ length (rows ++ all_born new (birth + k)) = length_permutation (rows ++ all_born new (birth + k)) after o.same in
      let a : length (rows ++ all_born new (birth + k)) ≡ length rows + length (all_born new (birth + k)) = length-append rows (all_born new (birth + k)) in
      omega arith)
      (λ ge.
      let same = (same_rounds n start since birth (again new r is some o) q (omega arith)).0 in
      let e : length after ≡ length mid = ap length same in
      omega arith)
      (cases_lt j (suc k))

  -- labels and destinations stay in the format
  pub rounds_in_format : {k last : ℕ} {rows : List Born} → Rounds n start since birth k rows last → ((b c a : LabelId) → Joins n b c a → a.0 < 63000) → All IsInFormat start → All IsInFormat rows
  rounds_in_format {rows = rows} r labels format = All-from_members IsInFormat rows (rounds_keep n start since birth IsInFormat made (λ b m. All-contains IsInFormat start b format m) r)
    where
      made : (x y : Born) (e : Edge) (b : ℕ) → IsInFormat x → IsInFormat y → IsJoin n x.edge y.edge e → IsInFormat (born e b)
      made x y e b hx hy j = record { label = labels x.edge.label y.edge.label e.label j.label; vertex = rw j.destination hy.vertex }

module _ (n : Normal) (start : Loaded) (since birth : ℕ) where
  pub record Going (rows : Loaded) (first next : ℕ) : Type 0 where
    pub k : ℕ
    pub next_is : next ≡ birth + k
    pub rounds : Rounds n start.edges since birth k rows.edges first
    pub loaded : IsLoaded rows
    pub low : rows.low ≡ start.low
    pub high : rows.high ≡ start.high

  pub Going-start : IsLoaded start → Going start since birth
  Going-start loaded = record { k = 0; next_is = omega arith; rounds = begun; loaded = loaded; low = refl; high = refl }

  module _ (rows : Loaded) (first next : ℕ) (g : Going rows first next) where
    pub not_less : birth ≤ next
    not_less = let e : next ≡ birth + g.k = g.next_is in omega arith

    pub ends : IsRound n rows.edges first [] → (budget : ℕ) → length rows.edges ≤ budget → IsPairRun n start.edges since birth budget true (next - birth) rows.edges
    ends is budget within =
        let e : next - birth ≡ g.k = (let e : next ≡ birth + g.k = g.next_is in omega arith) in
        rw e (record {
          last = first;
          rounds = g.rounds;
          ended = is;
          within = record {
            before = λ j last mid r some lt. (let h : length mid ≤ length rows.edges = rounds_shorter n start.edges since birth g.rounds r (omega arith) in omega arith);
            at_end = λ some. within;
          };
        })

    pub ends_joined : IsRound n rows.edges first [] → AreJoinedBelow n start.edges since → AreJoined n rows.edges
    ends_joined is old = all_joined n rows.edges first is (rounds_joined n start.edges since birth g.rounds old)

    pub in_format : ((b c a : LabelId) → Joins n b c a → a.0 < 63000) → All IsInFormat start.edges → All IsInFormat rows.edges
    in_format labels format = rounds_in_format n start.edges since birth g.rounds labels format

    module _ (new : List Edge) (after : Loaded) (is : IsRound n rows.edges first new) (some : 0 < length new) (o : Absorbs rows new next after) (loaded : IsLoaded after) where
      one_more : Rounds n start.edges since birth (suc g.k) after.edges next
      one_more = rw g.next_is (again new g.rounds is some (rw g.next_is at o.edges))

      pub Going-next : Going after next (next + 1)
      Going-next = record { k = suc g.k; next_is = let e : next ≡ birth + g.k = g.next_is in omega arith; rounds = one_more; loaded = loaded; low = o.low ∙ g.low; high = o.high ∙ g.high }

      same_capacity : capacity_of after ≡ capacity_of start
      same_capacity = rw (o.low ∙ g.low, o.high ∙ g.high) refl

      pub next_fits : ((b c a : LabelId) → Joins n b c a → a.0 < 63000) → All IsInFormat start.edges → birth + (capacity_of start - length start.edges) < 2 ^ 64 → next + 1 < 2 ^ 64
      next_fits labels format room =
          let long : length start.edges + suc g.k ≤ length after.edges = rounds_longer n start.edges since birth one_more in
          let short : length after.edges ≤ capacity_of after = fits after loaded (rounds_in_format n start.edges since birth one_more labels format) in
          let same : capacity_of after ≡ capacity_of start = same_capacity in
          let e : next ≡ birth + g.k = g.next_is in
          fits_number (capacity_of after) (capacity_of start) (length start.edges) (length after.edges) next birth g.k same long short e room
        where
          fits_number : (c d s a next birth k : ℕ) → c ≡ d → s + suc k ≤ a → a ≤ c → next ≡ birth + k → birth + (d - s) < 2 ^ 64 → next + 1 < 2 ^ 64
          fits_number c d s a next birth k e long short n room = omega arith

-- what a test for emptiness says
pub is_nil : (b : Bool) (xs ys : List Edge) → b ≡ (length xs == 0) → xs ≡ ys → b ≡ true → ys ≡ []
is_nil b [] ys e f h = sym f
is_nil b (x ∷ xs) ys e f h = absurd (never (length xs) (sym e ∙ h))
  where
    never : (k : ℕ) → (suc k == 0) ≡ true → ⊥
    never k h = grind (arith, nat_tests, h)

pub not_nil : (b : Bool) (xs ys : List Edge) → b ≡ (length xs == 0) → xs ≡ ys → b ≡ false → 0 < length ys
not_nil b [] ys e f h = absurd (never (sym e ∙ h))
  where
    never : (0 == 0) ≡ false → ⊥
    never h = grind (arith, nat_tests, h)
not_nil b (x ∷ xs) ys e f h = subst (λ (l : List Edge). 0 < length l) f (omega arith)

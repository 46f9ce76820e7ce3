-- What blocks give.
use Rattle.std.proofs.Common.{◌≡◌, ◌≢◌, ◌↔◌, ℕ, suc, ◌+◌, ◌-◌, ◌<◌, ◌≤◌, ◌⊎◌, ◌==◌, Bool, true, false, List, [], ◌∷◌, ◌++◌, length, get_or, take, drop, refl, sym, ap, subst, ◌∙◌, arith, inl, inr}
use Rattle.std.specs.Prelude.{All, Contains}
use Rattle.std.proofs.lemmas.Bool.{cases_lt}
use Rattle.std.proofs.lemmas.List.{length-take, length-drop, take_more, take_all, get_or_default}
use Rattle.std.proofs.lemmas.List.Elements.{All-contains, Contains-append_left, Contains-append_right, Contains-append_cases, Contains-push, Contains-push_cases}
use Rattle.graph_words.specs.declared.types.Vertex.{Vertex}
use Rattle.graph_words.specs.declared.types.LabelId.{LabelId}
use Rattle.graph_words.specs.declared.types.Born.{Born}
use Rattle.graph_words.specs.Reach.{IsBefore, edge}
use Rattle.normal_law.specs.Closure.{Normal}
use Rattle.normal_law.specs.Closed.{Joins}
use Rattle.partition_file.specs.Spelling.{row_of}
use Rattle.closing_machine.specs.Rounds.{IsCandidate, IsOrdered}
use Rattle.closing_machine.proofs.Members.{either, All-from_members, Contains-filter, Contains-kept, passes}
use Rattle.std.proofs.lemmas.Bool.Decides.{nat_tests}
use Rattle.std.specs.Prelude.{nat_le, IsTrue, filter}
use Rattle.row_table.specs.Loaded.{newer_edges}
use Rattle.row_table.proofs.RowLemmas.{some_born}
use Rattle.row_table.proofs.OrderLemmas.{front_grows, place_in_part, part_at}
use Rattle.row_table.proofs.SearchLemmas.{in_its_row, from_row, row_ordered}
use Rattle.row_table.specs.declared.blocks.Block.{Block}
use Rattle.row_table.specs.Joined.{BlocksHave, JoinsTo, AddsJoins, AddsSecond, AddsFirst, AddsRows, AreSeconds, PartsLabels, CountsBirth, GivesJoins, HasLabels, IsJoinOf, LabelsAscend}
use Rattle.row_table.specs.Sieve.{HasNumber, AddsNumber}

-- some edge of the list ends at w
abbrev pub EndsAt : List Born → Vertex → Type 0
EndsAt run w = (c : Born) × Contains run c × (c.edge.dst ≡ w)

-- blocks were added, one for each label, with the same edges
abbrev pub GivesLabels : List Block → List Block → List LabelId → List Born → Type 0
GivesLabels before after labels run = (a : LabelId) (w : Vertex) → BlocksHave after a w ↔ (BlocksHave before a w ⊎ (Contains labels a × EndsAt run w))

module _ (blocks : List Block) (k : Block) (a : LabelId) (w : Vertex) where
  pub gives_push_to : BlocksHave (blocks ++ k ∷ []) a w → BlocksHave blocks a w ⊎ ((k.label ≡ a) × EndsAt k.seconds.now w)
  gives_push_to g =
      either
      (λ (m : Contains blocks g.0). inl (g.0, m, g.2, g.3))
      (λ (e : k ≡ g.0). inr (subst (λ (b : Block). (b.label ≡ a) × EndsAt b.seconds.now w) (sym e) (g.2, g.3)))
      (Contains-push_cases blocks k g.0 g.1)

  pub gives_push_back : BlocksHave blocks a w ⊎ ((k.label ≡ a) × EndsAt k.seconds.now w) → BlocksHave (blocks ++ k ∷ []) a w
  gives_push_back h =
      either
      (λ (g : BlocksHave blocks a w). (g.0, Contains-append_left blocks (k ∷ []) g.0 g.1, g.2, g.3))
      (λ (p : (k.label ≡ a) × EndsAt k.seconds.now w). (k, Contains-push blocks k, p.0, p.1))
      h

-- ---- a block for each label

pub labels_none : (blocks : List Block) (run : List Born) → GivesLabels blocks blocks [] run
labels_none blocks run a w = (λ g. inl g, λ h. either (λ g. g) (λ (p : Contains [] a × EndsAt run w). absurd (let l : p.0.0 < 0 = p.0.1 in omega arith)) h)

module _ (before now : List Block) (labels : List LabelId) (i : ℕ) (d : LabelId) (k : Block) (lt : i < length labels) (is : k.label ≡ get_or labels i d) where
  labels_to : (run : List Born) → k.seconds.now ≡ run → GivesLabels before now (take i labels) run → (a : LabelId) (w : Vertex) → BlocksHave (now ++ k ∷ []) a w → BlocksHave before a w ⊎ (Contains (take (i + 1) labels) a × EndsAt run w)
  labels_to run e h a w g =
      rw (take_more labels i d lt) (
      either
      (λ (g : BlocksHave now a w). either (λ (o : BlocksHave before a w). inl o) (λ (p : Contains (take i labels) a × EndsAt run w). inr (Contains-append_left (take i labels) (get_or labels i d ∷ []) a p.0, p.1)) ((h a w).0 g))
      (λ (p : (k.label ≡ a) × EndsAt k.seconds.now w). inr (subst (λ (x : LabelId). Contains (take i labels ++ get_or labels i d ∷ []) x) (sym is ∙ p.0) (Contains-push (take i labels) (get_or labels i d)), subst (λ (r : List Born). EndsAt r w) e p.1))
      (gives_push_to now k a w g))

  labels_back : (run : List Born) → k.seconds.now ≡ run → GivesLabels before now (take i labels) run → (a : LabelId) (w : Vertex) → BlocksHave before a w ⊎ (Contains (take (i + 1) labels) a × EndsAt run w) → BlocksHave (now ++ k ∷ []) a w
  labels_back run e h a w g =
      gives_push_back now k a w (
      either
      (λ (o : BlocksHave before a w). inl ((h a w).1 (inl o)))
      (λ (p : Contains (take (i + 1) labels) a × EndsAt run w).
      either
      (λ (m : Contains (take i labels) a). inl ((h a w).1 (inr (m, p.1))))
      (λ (s : get_or labels i d ≡ a). inr (is ∙ s, subst (λ (r : List Born). EndsAt r w) (sym e) p.1))
      (Contains-push_cases (take i labels) (get_or labels i d) a (rw (take_more labels i d lt) at p.0)))
      g)

  pub labels_more : (run : List Born) → k.seconds.now ≡ run → GivesLabels before now (take i labels) run → GivesLabels before (now ++ k ∷ []) (take (i + 1) labels) run
  labels_more run e h a w = (labels_to run e h a w, labels_back run e h a w)

module _ (n : Normal) (first label : LabelId) (before after : List Block) (labels : List LabelId) (run : List Born) (each : (a : LabelId) → Contains labels a ↔ Joins n first label a) (same : All (λ b. b.edge.label ≡ label) run) where
  label_of : (c : Born) → Contains run c → c.edge.label ≡ label
  label_of c m = All-contains (λ (b : Born). b.edge.label ≡ label) run c same m

  pub labels_all : (i : ℕ) → length labels ≤ i → GivesLabels before after (take i labels) run → AddsJoins n first run before after
  labels_all i le h a w = (
    λ g. either (λ (o : BlocksHave before a w). inl o) (λ (p : Contains (take i labels) a × EndsAt run w). inr (p.1.0, p.1.1, subst (λ (l : LabelId). Joins n first l a) (sym (label_of p.1.0 p.1.1)) ((each a).0 (rw (take_all i labels le) at p.0)), p.1.2)) ((h a w).0 g),
    λ o. either (λ (g : BlocksHave before a w). (h a w).1 (inl g)) (λ (j : JoinsTo n first run a w). (h a w).1 (inr (rw (take_all i labels le) ((each a).1 (subst (λ (l : LabelId). Joins n first l a) (label_of j.0 j.1) j.2)), (j.0, j.1, j.3)))) o,
  )

-- ---- runs of a row

pub joins_none : (n : Normal) (first : LabelId) (blocks : List Block) → AddsJoins n first [] blocks blocks
joins_none n first blocks a w = (λ g. inl g, λ h. either (λ g. g) (λ (p : JoinsTo n first [] a w). absurd (let l : p.1.0 < 0 = p.1.1 in omega arith)) h)

pub joins_both : (n : Normal) (first : LabelId) (xs ys : List Born) (before now after : List Block) → AddsJoins n first xs before now → AddsJoins n first ys now after → AddsJoins n first (xs ++ ys) before after
joins_both n first xs ys before now after f h a w = (
  λ g. either
      (λ (g : BlocksHave now a w). either (λ (o : BlocksHave before a w). inl o) (λ (p : JoinsTo n first xs a w). inr (p.0, Contains-append_left xs ys p.0 p.1, p.2, p.3)) ((f a w).0 g))
      (λ (p : JoinsTo n first ys a w). inr (p.0, Contains-append_right xs ys p.0 p.1, p.2, p.3))
      ((h a w).0 g),
  λ o. either
      (λ (g : BlocksHave before a w). (h a w).1 (inl ((f a w).1 (inl g))))
      (λ (p : JoinsTo n first (xs ++ ys) a w).
      either
      (λ (m : Contains xs p.0). (h a w).1 (inl ((f a w).1 (inr (p.0, m, p.2, p.3)))))
      (λ (m : Contains ys p.0). (h a w).1 (inr (p.0, m, p.2, p.3)))
      (Contains-append_cases xs ys p.0 p.1))
      o,
)

pub joins_more : (n : Normal) (first : LabelId) (row : List Born) (i j : ℕ) (before now after : List Block) → i ≤ j → AddsJoins n first (take i row) before now → AddsJoins n first (take (j - i) (drop i row)) now after → AddsJoins n first (take j row) before after
joins_more n first row i j before now after le f h = subst (λ (r : List Born). AddsJoins n first r before after) (front_grows row i j le) (joins_both n first (take i row) (take (j - i) (drop i row)) before now after f h)

-- ---- the edges of a row with a label

module _ (row : List Born) (from : ℕ) (up : LabelsAscend row) where
  pub labels_up_to : (n : ℕ) (f : Born) → n < length row → (get_or row n f).edge.label.0 < from → (k : ℕ) (d : Born) → k < n + 1 → (get_or row k d).edge.label.0 < from
  labels_up_to n f lt here k d le =
      let at : (get_or row n d).edge.label.0 < from = subst (λ (b : Born). b.edge.label.0 < from) (get_or_default row n f d lt) here in
      elim (cases_lt k n) [
        | inl l ↦ (let g : (get_or row k d).edge.label.0 ≤ (get_or row n d).edge.label.0 = up k n d l lt in omega arith)
        | inr g ↦ (let same : n ≡ k = omega arith in subst (λ (j : ℕ). (get_or row j d).edge.label.0 < from) same at)
      ]

  pub labels_from : (n : ℕ) (f : Born) → n < length row → from ≤ (get_or row n f).edge.label.0 → (k : ℕ) (d : Born) → n ≤ k → k < length row → from ≤ (get_or row k d).edge.label.0
  labels_from n f lt here k d le end =
      let at : from ≤ (get_or row n d).edge.label.0 = subst (λ (b : Born). from ≤ b.edge.label.0) (get_or_default row n f d lt) here in
      elim (cases_lt n k) [
        | inl l ↦ (let g : (get_or row n d).edge.label.0 ≤ (get_or row k d).edge.label.0 = up n k d l end in omega arith)
        | inr g ↦ (let same : n ≡ k = omega arith in subst (λ (j : ℕ). from ≤ (get_or row j d).edge.label.0) same at)
      ]

module _ (row : List Born) (label : LabelId) (p q : ℕ) (first : PartsLabels row label.0 p) (second : PartsLabels row (label.0 + 1) q) where
  pub places_in_order : p ≤ q
  places_in_order =
      elim (cases_lt q p) [
        | inl lt ↦ absurd (
            let below : (get_or row q some_born).edge.label.0 < label.0 = first.before q some_born lt in
            let end : p ≤ length row = first.within in
            let above : label.0 + 1 ≤ (get_or row q some_born).edge.label.0 = second.behind q some_born (omega arith) (omega arith) in
            omega arith)
        | inr le ↦ le
      ]

  pub in_run : (b : Born) → Contains (take (q - p) (drop p row)) b ↔ (Contains row b × (b.edge.label ≡ label))
  in_run b = (
    λ m. (let w = place_in_part row p (q - p) b m in
        let le = places_in_order in
        let k : ℕ = w.0 in
        let on : p ≤ k = w.1 in
        let l : k < p + (q - p) = w.2 in
        let low : label.0 ≤ (get_or row k b).edge.label.0 = first.behind k b on w.3 in
        let high : (get_or row k b).edge.label.0 < label.0 + 1 = second.before k b (omega arith) in
        let e : (get_or row k b).edge.label.0 ≡ label.0 = omega arith in
        ((k, w.3, w.4), same_label b.edge.label label (subst (λ (x : Born). x.edge.label.0 ≡ label.0) w.4 e))),
    λ m. there m.0.0 m.0.1 m.0.2 (ap (λ (l : LabelId). l.0) m.1),
  )
    where
      same_label : (x y : LabelId) → x.0 ≡ y.0 → x ≡ y
      same_label x y e = let f : ℕ → LabelId = λ i. record { 0 = i } in ap f e

      there : (k : ℕ) → k < length row → get_or row k b ≡ b → b.edge.label.0 ≡ label.0 → Contains (take (q - p) (drop p row)) b
      there k lt is e =
          let at : (get_or row k b).edge.label.0 ≡ label.0 = subst (λ (x : Born). x.edge.label.0 ≡ label.0) (sym is) e in
          let on : p ≤ k = elim (cases_lt k p) [ inl l ↦ absurd (let h : (get_or row k b).edge.label.0 < label.0 = first.before k b l in omega arith) | inr g ↦ g ] in
          let within : k < q = elim (cases_lt k q) [ inl l ↦ l | inr g ↦ absurd (let h : label.0 + 1 ≤ (get_or row k b).edge.label.0 = second.behind k b g lt in omega arith) ] in
          let end : q ≤ length row = second.within in
          let len : k - p < length (take (q - p) (drop p row)) = (let a = length-take (q - p) (drop p row) in let c = length-drop p row in omega arith) in
          (k - p, len, part_at row p (q - p) (k - p) b len ∙ ap (λ (j : ℕ). get_or row j b) (let j : p + (k - p) ≡ k = omega arith in j) ∙ is)

-- no edge of the row has the label, where the first one that could has another
pub no_run : (row : List Born) (label : LabelId) (p : ℕ) → LabelsAscend row → PartsLabels row label.0 p → p ≡ length row ⊎ ((get_or row p some_born).edge.label.0 ≢ label.0) → (b : Born) → Contains [] b ↔ (Contains row b × (b.edge.label ≡ label))
no_run row label p up parts other b = (λ m. absurd (let l : m.0 < 0 = m.1 in omega arith), λ m. absurd (never m.0.0 m.0.1 m.0.2 (ap (λ (l : LabelId). l.0) m.1)))
  where
    never : (k : ℕ) → k < length row → get_or row k b ≡ b → b.edge.label.0 ≡ label.0 → ⊥
    never k lt is e =
        let at : (get_or row k b).edge.label.0 ≡ label.0 = subst (λ (x : Born). x.edge.label.0 ≡ label.0) (sym is) e in
        elim (cases_lt k p) [
          | inl l ↦ (let h : (get_or row k b).edge.label.0 < label.0 = parts.before k b l in omega arith)
          | inr g ↦ (
              let low : label.0 ≤ (get_or row p b).edge.label.0 = parts.behind p b (omega arith) (omega arith) in
              let grows : (get_or row p b).edge.label.0 ≤ (get_or row k b).edge.label.0 = elim (cases_lt p k) [ inl l ↦ up p k b l lt | inr le ↦ (let s : p ≡ k = omega arith in subst (λ (j : ℕ). (get_or row p b).edge.label.0 ≤ (get_or row j b).edge.label.0) s (omega arith)) ] in
              let same : (get_or row p b).edge.label.0 ≡ label.0 = omega arith in
              either
              (λ (end : p ≡ length row). omega arith)
              (λ (ne : (get_or row p some_born).edge.label.0 ≢ label.0). ne (ap (λ (x : Born). x.edge.label.0) (get_or_default row p some_born b (omega arith)) ∙ same))
              other)
        ]

pub second_none : (n : Normal) (first : LabelId) (row : List Born) (label : LabelId) (blocks : List Block) (run : List Born) → ((b : Born) → Contains run b ↔ (Contains row b × (b.edge.label ≡ label))) → run ≡ [] → AddsSecond n first row label blocks blocks
second_none n first row label blocks run has nil a w = (
  λ g. inl g,
  λ o. either (λ (g : BlocksHave blocks a w). g) (λ (p : (c : Born) × Contains row c × (c.edge.label ≡ label) × Joins n first c.edge.label a × (c.edge.dst ≡ w)). absurd (let m : Contains [] p.0 = subst (λ (l : List Born). Contains l p.0) nil ((has p.0).1 (p.1, p.2)) in let l : m.0 < 0 = m.1 in omega arith)) o,
)

pub second_run : (n : Normal) (first : LabelId) (row : List Born) (label : LabelId) (before after : List Block) (run : List Born) → ((b : Born) → Contains run b ↔ (Contains row b × (b.edge.label ≡ label))) → AddsJoins n first run before after → AddsSecond n first row label before after
second_run n first row label before after run has h a w = (
  λ g. either (λ (o : BlocksHave before a w). inl o) (λ (j : JoinsTo n first run a w). inr (let r = (has j.0).0 j.1 in (j.0, r.0, r.1, j.2, j.3))) ((h a w).0 g),
  λ o. either (λ (g : BlocksHave before a w). (h a w).1 (inl g)) (λ (p : (c : Born) × Contains row c × (c.edge.label ≡ label) × Joins n first c.edge.label a × (c.edge.dst ≡ w)). (h a w).1 (inr (p.0, (has p.0).1 (p.1, p.2), p.3, p.4))) o,
)

-- what a first label joins to with those edges of a row that have some of these labels
abbrev pub AddsSome : Normal → LabelId → List Born → List LabelId → List Block → List Block → Type 0
AddsSome n first row labels before after = (a : LabelId) (w : Vertex)
    → BlocksHave after a w ↔ (BlocksHave before a w ⊎ ((c : Born) × Contains row c × Contains labels c.edge.label × Joins n first c.edge.label a × (c.edge.dst ≡ w)))

pub some_none : (n : Normal) (first : LabelId) (row : List Born) (blocks : List Block) → AddsSome n first row [] blocks blocks
some_none n first row blocks a w = (λ g. inl g, λ o. either (λ (g : BlocksHave blocks a w). g) (λ (p : (c : Born) × Contains row c × Contains [] c.edge.label × Joins n first c.edge.label a × (c.edge.dst ≡ w)). absurd (let m : Contains [] p.0.edge.label = p.2 in let l : m.0 < 0 = m.1 in omega arith)) o)

pub some_more : (n : Normal) (first : LabelId) (row : List Born) (labels : List LabelId) (i : ℕ) (d : LabelId) (before now after : List Block) → i < length labels → AddsSome n first row (take i labels) before now → AddsSecond n first row (get_or labels i d) now after → AddsSome n first row (take (i + 1) labels) before after
some_more n first row labels i d before now after lt f h a w = (
  λ g. either
      (λ (g : BlocksHave now a w). either (λ (o : BlocksHave before a w). inl o) (λ (p : (c : Born) × Contains row c × Contains (take i labels) c.edge.label × Joins n first c.edge.label a × (c.edge.dst ≡ w)). inr (p.0, p.1, rw (take_more labels i d lt) (Contains-append_left (take i labels) (get_or labels i d ∷ []) p.0.edge.label p.2), p.3, p.4)) ((f a w).0 g))
      (λ (p : (c : Born) × Contains row c × (c.edge.label ≡ get_or labels i d) × Joins n first c.edge.label a × (c.edge.dst ≡ w)). inr (p.0, p.1, rw (take_more labels i d lt) (subst (λ (l : LabelId). Contains (take i labels ++ get_or labels i d ∷ []) l) (sym p.2) (Contains-push (take i labels) (get_or labels i d))), p.3, p.4))
      ((h a w).0 g),
  λ o. either
      (λ (g : BlocksHave before a w). (h a w).1 (inl ((f a w).1 (inl g))))
      (λ (p : (c : Born) × Contains row c × Contains (take (i + 1) labels) c.edge.label × Joins n first c.edge.label a × (c.edge.dst ≡ w)).
      either
      (λ (m : Contains (take i labels) p.0.edge.label). (h a w).1 (inl ((f a w).1 (inr (p.0, p.1, m, p.3, p.4)))))
      (λ (s : get_or labels i d ≡ p.0.edge.label). (h a w).1 (inr (p.0, p.1, sym s, p.3, p.4)))
      (Contains-push_cases (take i labels) (get_or labels i d) p.0.edge.label (rw (take_more labels i d lt) at p.2)))
      o,
)

pub some_all : (n : Normal) (first : LabelId) (row : List Born) (labels : List LabelId) (i : ℕ) (before after : List Block) → AreSeconds n first row labels → length labels ≤ i → AddsSome n first row (take i labels) before after → AddsJoins n first row before after
some_all n first row labels i before after are le f a w = (
  λ g. either (λ (o : BlocksHave before a w). inl o) (λ (p : (c : Born) × Contains row c × Contains (take i labels) c.edge.label × Joins n first c.edge.label a × (c.edge.dst ≡ w)). inr (p.0, p.1, p.3, p.4)) ((f a w).0 g),
  λ o. either (λ (g : BlocksHave before a w). (f a w).1 (inl g)) (λ (p : JoinsTo n first row a w). (f a w).1 (inr (p.0, p.1, rw (take_all i labels le) (are p.0 a p.1 p.2), p.2, p.3))) o,
)

pub row_labels : (v : ℕ) (row : List Born) → IsOrdered row → All (λ b. b.edge.src.0 ≡ v) row → LabelsAscend row
row_labels v row ordered source i j d lt end = grows (get_or row i d) (get_or row j d) (source i d (omega arith)) (source j d end) (ordered i j d lt end)
  where
    grows : (x y : Born) → x.edge.src.0 ≡ v → y.edge.src.0 ≡ v → IsBefore x.edge y.edge → x.edge.label.0 ≤ y.edge.label.0
    grows x y a b p = grind (arith, a, b, p)

-- those between two places of one label have it too
pub same_between : (row : List Born) (label : LabelId) (start middle : ℕ) (f : Born) → LabelsAscend row → ((d : Born) → (get_or row start d).edge.label ≡ label) → start ≤ middle → middle < length row → (get_or row middle f).edge.label.0 ≡ label.0 → (k : ℕ) (d : Born) → start ≤ k → k < middle + 1 → (get_or row k d).edge.label ≡ label
same_between row label start middle f up first le lt at k d from to = same (get_or row k d).edge.label label (omega (arith, above, below))
  where
    same : (x y : LabelId) → x.0 ≡ y.0 → x ≡ y
    same x y e = ap (λ (i : ℕ). let l : LabelId = record { 0 = i } in l) e

    at_middle : (get_or row middle d).edge.label.0 ≡ label.0
    at_middle = subst (λ (b : Born). b.edge.label.0 ≡ label.0) (get_or_default row middle f d lt) at

    above : label.0 ≤ (get_or row k d).edge.label.0
    above =
        let e : (get_or row start d).edge.label.0 ≡ label.0 = ap (λ (l : LabelId). l.0) (first d) in
        elim (cases_lt start k) [
          | inl l ↦ (let u : (get_or row start d).edge.label.0 ≤ (get_or row k d).edge.label.0 = up start k d l (omega arith) in omega arith)
          | inr g ↦ (let s : start ≡ k = omega arith in let f : (get_or row k d).edge.label.0 ≡ label.0 = subst (λ (j : ℕ). (get_or row j d).edge.label.0 ≡ label.0) s e in omega arith)
        ]

    below : (get_or row k d).edge.label.0 ≤ label.0
    below =
        let e : (get_or row middle d).edge.label.0 ≡ label.0 = at_middle in
        elim (cases_lt k middle) [
          | inl l ↦ (let u : (get_or row k d).edge.label.0 ≤ (get_or row middle d).edge.label.0 = up k middle d l lt in omega arith)
          | inr g ↦ (let s : middle ≡ k = omega arith in let f : (get_or row k d).edge.label.0 ≡ label.0 = subst (λ (j : ℕ). (get_or row j d).edge.label.0 ≡ label.0) s e in omega arith)
        ]

-- ---- first edges

pub firsts_none : (n : Normal) (every : Bool) (since : ℕ) (edges : List Born) (blocks : List Block) → AddsRows n every since [] edges blocks blocks
firsts_none n every since edges blocks a w = (λ g. inl g, λ h. either (λ g. g) (λ (p : (b : Born) × Contains [] b × CountsBirth every since b × JoinsTo n b.edge.label (row_of b.edge.dst.0 edges) a w). absurd (let l : p.1.0 < 0 = p.1.1 in omega arith)) h)

module _ (n : Normal) (every : Bool) (since : ℕ) (firsts edges : List Born) (i : ℕ) (d : Born) (before now after : List Block) (lt : i < length firsts) where
  abbrev Joined : List Born → LabelId → Vertex → Type 0
  Joined list a w = (b : Born) × Contains list b × CountsBirth every since b × JoinsTo n b.edge.label (row_of b.edge.dst.0 edges) a w

  pub firsts_more : AddsRows n every since (take i firsts) edges before now → AddsFirst n every since (get_or firsts i d) edges now after → AddsRows n every since (take (i + 1) firsts) edges before after
  firsts_more f h a w = (
    λ g. either
        (λ (g : BlocksHave now a w). either (λ (o : BlocksHave before a w). inl o) (λ (p : Joined (take i firsts) a w). inr (p.0, rw (take_more firsts i d lt) (Contains-append_left (take i firsts) (get_or firsts i d ∷ []) p.0 p.1), p.2, p.3)) ((f a w).0 g))
        (λ (p : CountsBirth every since (get_or firsts i d) × JoinsTo n (get_or firsts i d).edge.label (row_of (get_or firsts i d).edge.dst.0 edges) a w). inr (get_or firsts i d, rw (take_more firsts i d lt) (Contains-push (take i firsts) (get_or firsts i d)), p.0, p.1))
        ((h a w).0 g),
    λ o. either
        (λ (g : BlocksHave before a w). (h a w).1 (inl ((f a w).1 (inl g))))
        (λ (p : Joined (take (i + 1) firsts) a w).
        either
        (λ (m : Contains (take i firsts) p.0). (h a w).1 (inl ((f a w).1 (inr (p.0, m, p.2, p.3)))))
        (λ (s : get_or firsts i d ≡ p.0). (h a w).1 (inr (subst (λ (b : Born). CountsBirth every since b × JoinsTo n b.edge.label (row_of b.edge.dst.0 edges) a w) (sym s) (p.2, p.3))))
        (Contains-push_cases (take i firsts) (get_or firsts i d) p.0 (rw (take_more firsts i d lt) at p.1)))
        o,
  )

pub firsts_both : (n : Normal) (every : Bool) (since : ℕ) (xs ys edges : List Born) (before now after : List Block) → AddsRows n every since xs edges before now → AddsRows n every since ys edges now after → AddsRows n every since (xs ++ ys) edges before after
firsts_both n every since xs ys edges before now after f h a w = (
  λ g. either
      (λ (g : BlocksHave now a w). either (λ (o : BlocksHave before a w). inl o) (λ (p : (b : Born) × Contains xs b × CountsBirth every since b × JoinsTo n b.edge.label (row_of b.edge.dst.0 edges) a w). inr (p.0, Contains-append_left xs ys p.0 p.1, p.2, p.3)) ((f a w).0 g))
      (λ (p : (b : Born) × Contains ys b × CountsBirth every since b × JoinsTo n b.edge.label (row_of b.edge.dst.0 edges) a w). inr (p.0, Contains-append_right xs ys p.0 p.1, p.2, p.3))
      ((h a w).0 g),
  λ o. either
      (λ (g : BlocksHave before a w). (h a w).1 (inl ((f a w).1 (inl g))))
      (λ (p : (b : Born) × Contains (xs ++ ys) b × CountsBirth every since b × JoinsTo n b.edge.label (row_of b.edge.dst.0 edges) a w).
      either
      (λ (m : Contains xs p.0). (h a w).1 (inl ((f a w).1 (inr (p.0, m, p.2, p.3)))))
      (λ (m : Contains ys p.0). (h a w).1 (inr (p.0, m, p.2, p.3)))
      (Contains-append_cases xs ys p.0 p.1))
      o,
)

pub firsts_run : (n : Normal) (every : Bool) (since : ℕ) (firsts edges : List Born) (i j : ℕ) (before now after : List Block) → i ≤ j → AddsRows n every since (take i firsts) edges before now → AddsRows n every since (take (j - i) (drop i firsts)) edges now after → AddsRows n every since (take j firsts) edges before after
firsts_run n every since firsts edges i j before now after le f h = subst (λ (r : List Born). AddsRows n every since r edges before after) (front_grows firsts i j le) (firsts_both n every since (take i firsts) (take (j - i) (drop i firsts)) edges before now after f h)

-- ---- the labels of second edges

pub no_labels : (set : List Bool) → HasLabels [] set
no_labels set c m = absurd (let l : m.0 < 0 = m.1 in omega arith)

pub one_label_more : (edges : List Born) (i : ℕ) (d : Born) → i < length edges → (now after : List Bool) → HasLabels (take i edges) now → AddsNumber now after (get_or edges i d).edge.label.0 → HasLabels (take (i + 1) edges) after
one_label_more edges i d lt now after h a c m =
    either
    (λ (f : Contains (take i edges) c). a.keeps c.edge.label.0 (h c f))
    (λ (s : get_or edges i d ≡ c). subst (λ (b : Born). HasNumber after b.edge.label.0) s a.has)
    (Contains-push_cases (take i edges) (get_or edges i d) c (rw (take_more edges i d lt) at m))

pub same_truth : (a b : Bool) → IsTrue a ↔ IsTrue b → a ≡ b
same_truth true b h = sym (h.0 refl)
same_truth false true h = h.1 refl
same_truth false false h = refl

abbrev pub is_known : List Bool → LabelId → Bool
is_known set l = get_or set l.0 false

pub kept_known : (before after : List LabelId) (set : List Bool) → after ≡ filter (is_known set) before → (l : LabelId) → Contains before l → HasNumber set l.0 → Contains after l
kept_known before after set e l m has = subst (λ (k : List LabelId). Contains k l) (sym e) (Contains-filter (is_known set) before l m has)

pub all_seconds : (n : Normal) (first : LabelId) (edges : List Born) (labels : List LabelId) → ((c a : LabelId) → Joins n first c a → Contains labels c) → AreSeconds n first edges labels
all_seconds n first edges labels all c a m j = all c.edge.label a j

pub known_seconds : (n : Normal) (first : LabelId) (edges : List Born) (labels kept : List LabelId) (set : List Bool) → ((c a : LabelId) → Joins n first c a → Contains labels c) → HasLabels edges set → ((l : LabelId) → Contains labels l → HasNumber set l.0 → Contains kept l) → AreSeconds n first edges kept
known_seconds n first edges labels kept set all has keeps c a m j = keeps c.edge.label (all c.edge.label a j) (has c m)

-- what has all second labels of the edges has those of a row
pub seconds_in_row : (n : Normal) (first : LabelId) (edges : List Born) (v : ℕ) (labels : List LabelId) → AreSeconds n first edges labels → AreSeconds n first (row_of v edges) labels
seconds_in_row n first edges v labels are c a m j = are c a (from_row edges c v m).0 j

-- no label of the edges joins behind the label of the first edges
pub firsts_idle : (n : Normal) (every : Bool) (since : ℕ) (firsts edges : List Born) (label : LabelId) (labels : List LabelId) (blocks : List Block) → All (λ b. b.edge.label ≡ label) firsts → AreSeconds n label edges labels → labels ≡ [] → AddsRows n every since firsts edges blocks blocks
firsts_idle n every since firsts edges label labels blocks all are nil a w = (
  λ g. inl g,
  λ o. either (λ (g : BlocksHave blocks a w). g) (λ (p : (b : Born) × Contains firsts b × CountsBirth every since b × JoinsTo n b.edge.label (row_of b.edge.dst.0 edges) a w). absurd (never p.0 p.1 p.3.0 (from_row edges p.3.0 p.0.edge.dst.0 p.3.1).0 p.3.2)) o,
)
  where
    never : (b : Born) → Contains firsts b → (c : Born) → Contains edges c → Joins n b.edge.label c.edge.label a → ⊥
    never b m c there j =
        let e : b.edge.label ≡ label = All-contains (λ (x : Born). x.edge.label ≡ label) firsts b all m in
        let r : Contains [] c.edge.label = subst (λ (l : List LabelId). Contains l c.edge.label) nil (are c a there (subst (λ (l : LabelId). Joins n l c.edge.label a) e j)) in
        let l : r.0 < 0 = r.1 in
        omega arith

pub first_counts : (n : Normal) (every : Bool) (since : ℕ) (b : Born) (edges : List Born) (before after : List Block) → CountsBirth every since b → AddsJoins n b.edge.label (row_of b.edge.dst.0 edges) before after → AddsFirst n every since b edges before after
first_counts n every since b edges before after counts h a w = (
  λ g. either (λ (o : BlocksHave before a w). inl o) (λ (p : JoinsTo n b.edge.label (row_of b.edge.dst.0 edges) a w). inr (counts, p)) ((h a w).0 g),
  λ o. either (λ (g : BlocksHave before a w). (h a w).1 (inl g)) (λ (p : CountsBirth every since b × JoinsTo n b.edge.label (row_of b.edge.dst.0 edges) a w). (h a w).1 (inr p.1)) o,
)

pub first_does_not : (n : Normal) (every : Bool) (since : ℕ) (b : Born) (edges : List Born) (blocks : List Block) → (CountsBirth every since b → ⊥) → AddsFirst n every since b edges blocks blocks
first_does_not n every since b edges blocks none a w = (
  λ g. inl g,
  λ o. either (λ (g : BlocksHave blocks a w). g) (λ (p : CountsBirth every since b × JoinsTo n b.edge.label (row_of b.edge.dst.0 edges) a w). absurd (none p.0)) o,
)

-- ---- all blocks of a vertex

same_vertex : (x y : Vertex) → x.0 ≡ y.0 → x ≡ y
same_vertex x y e = let f : ℕ → Vertex = λ i. record { 0 = i } in ap f e

pub is_newer : (since : ℕ) (edges : List Born) (b : Born) → Contains (newer_edges since edges) b → Contains edges b × (since ≤ b.birth)
is_newer since edges b m = (Contains-kept (λ (x : Born). nat_le since x.birth) edges b m, said since b.birth (passes (λ (x : Born). nat_le since x.birth) edges b m))
  where
    said : (m n : ℕ) → nat_le m n ≡ true → m ≤ n
    said m n h = grind (arith, nat_tests, h)

pub newer_has : (since : ℕ) (edges : List Born) (b : Born) → Contains edges b → since ≤ b.birth → Contains (newer_edges since edges) b
newer_has since edges b m le = Contains-filter (λ (x : Born). nat_le since x.birth) edges b m (says since b.birth le)
  where
    says : (m n : ℕ) → m ≤ n → nat_le m n ≡ true
    says m n h = grind (arith, nat_tests, h)

module _ (n : Normal) (edges : List Born) (since : ℕ) (u : Vertex) where
  candidate : (a : LabelId) (w : Vertex) (b c : Born) → Contains edges b → b.edge.src.0 ≡ u.0 → Contains edges c → c.edge.src.0 ≡ b.edge.dst.0 → Joins n b.edge.label c.edge.label a → c.edge.dst ≡ w → (since ≤ b.birth) ⊎ (since ≤ c.birth) → (x : Vertex) × IsCandidate n edges since x (edge u a w)
  candidate a w b c mb sb mc sc j e new = (
    b.edge.dst,
    record {
      first = b;
      second = c;
      has_first = mb;
      has_second = mc;
      centre = refl;
      join = record { follows = same_vertex b.edge.dst c.edge.src (sym sc); source = same_vertex u b.edge.src (sym sb); destination = sym e; label = j };
      one_new = new;
    },
  )

  module _ (first second : List Block) (f : AddsRows n true since (row_of u.0 (newer_edges since edges)) edges [] first) (s : AddsRows n false since (row_of u.0 edges) (newer_edges since edges) first second) where
    to : (a : LabelId) (w : Vertex) → BlocksHave second a w → (x : Vertex) × IsCandidate n edges since x (edge u a w)
    to a w g =
        either
        (λ (g : BlocksHave first a w).
        either
        (λ (o : BlocksHave [] a w). absurd (let l : o.1.0 < 0 = o.1.1 in omega arith))
        (λ (p : (b : Born) × Contains (row_of u.0 (newer_edges since edges)) b × CountsBirth true since b × JoinsTo n b.edge.label (row_of b.edge.dst.0 edges) a w).
        let r = from_row (newer_edges since edges) p.0 u.0 p.1 in
        let new = is_newer since edges p.0 r.0 in
        let t = from_row edges p.3.0 p.0.edge.dst.0 p.3.1 in
        candidate a w p.0 p.3.0 new.0 r.1 t.0 t.1 p.3.2 p.3.3 (inl new.1))
        ((f a w).0 g))
        (λ (p : (b : Born) × Contains (row_of u.0 edges) b × CountsBirth false since b × JoinsTo n b.edge.label (row_of b.edge.dst.0 (newer_edges since edges)) a w).
        let r = from_row edges p.0 u.0 p.1 in
        let t = from_row (newer_edges since edges) p.3.0 p.0.edge.dst.0 p.3.1 in
        let new = is_newer since edges p.3.0 t.0 in
        candidate a w p.0 p.3.0 r.0 r.1 new.0 t.1 p.3.2 p.3.3 (inr new.1))
        ((s a w).0 g)

    back : (a : LabelId) (w : Vertex) → (x : Vertex) × IsCandidate n edges since x (edge u a w) → BlocksHave second a w
    back a w h =
        let c = h.1 in
        let b : Born = c.first in
        let d : Born = c.second in
        let sb : b.edge.src.0 ≡ u.0 = ap (λ (v : Vertex). v.0) (sym c.join.source) in
        let sd : d.edge.src.0 ≡ b.edge.dst.0 = ap (λ (v : Vertex). v.0) (sym c.join.follows) in
        elim (cases_lt b.birth since) [
          | inl lt ↦ (
              let new : since ≤ d.birth = either (λ (l : since ≤ b.birth). absurd (omega arith)) (λ (l : since ≤ d.birth). l) c.one_new in
              (s a w).1 (inr (b, in_its_row edges b u.0 sb c.has_first, inr lt, (d, in_its_row (newer_edges since edges) d b.edge.dst.0 sd (newer_has since edges d c.has_second new), c.join.label, sym c.join.destination))))
          | inr le ↦ (s a w).1 (inl ((f a w).1 (inr (b, in_its_row (newer_edges since edges) b u.0 sb (newer_has since edges b c.has_first le), inl refl, (d, in_its_row edges d b.edge.dst.0 sd c.has_second, c.join.label, sym c.join.destination)))))
        ]

    pub gives_joins : GivesJoins (IsJoinOf n edges since) u second
    gives_joins a w = (to a w, back a w)

pub row_labels_of : (v : ℕ) (edges : List Born) → IsOrdered edges → LabelsAscend (row_of v edges)
row_labels_of v edges sorted = row_labels v (row_of v edges) (row_ordered v edges sorted) (All-from_members (λ (b : Born). b.edge.src.0 ≡ v) (row_of v edges) (λ b m. (from_row edges b v m).1))

pub gives_for : (n : Normal) (edges newer : List Born) (since : ℕ) (u : Vertex) (row newer_row : List Born) (start first second : List Block) → start ≡ [] → newer ≡ newer_edges since edges → newer_row ≡ row_of u.0 newer → row ≡ row_of u.0 edges → AddsRows n true since newer_row edges start first → AddsRows n false since row newer first second → GivesJoins (IsJoinOf n edges since) u second
gives_for n edges newer since u row newer_row start first second nil new is_newer_row is_row f s =
    gives_joins n edges since u first second
    (subst (λ (l : List Block). AddsRows n true since (row_of u.0 (newer_edges since edges)) edges l first) nil (subst (λ (r : List Born). AddsRows n true since r edges start first) (is_newer_row ∙ ap (λ (l : List Born). row_of u.0 l) new) f))
    (subst (λ (l : List Born). AddsRows n false since (row_of u.0 edges) l first second) new (subst (λ (r : List Born). AddsRows n false since r newer first second) is_row s))

-- what a test for emptiness says
pub is_nil : {X : Type 0} (b : Bool) (xs : List X) → b ≡ (length xs == 0) → b ≡ true → xs ≡ []
is_nil b [] e h = refl
is_nil b (x ∷ xs) e h = absurd (never (length xs) (sym e ∙ h))
  where
    never : (k : ℕ) → (suc k == 0) ≡ true → ⊥
    never k h = grind (arith, nat_tests, h)

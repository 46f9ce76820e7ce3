-- The row of a vertex is what stands between two places.
use Rattle.std.proofs.Common.{◌≡◌, ◌≢◌, ℕ, ◌+◌, ◌-◌, ◌<◌, ◌≤◌, Bool, true, false, cond, Some, None, List, [], ◌∷◌, ◌++◌, length, get_or, take, drop, refl, sym, ap, subst, ◌∙◌, arith, inl, inr}
use Rattle.std.specs.Prelude.{All, filter}
use Rattle.std.proofs.lemmas.Bool.{cases_lt}
use Rattle.std.proofs.lemmas.Bool.Decides.{nat_tests}
use Rattle.std.proofs.lemmas.List.{append-nil, length-take, length-drop, take-append-drop, get_or-take, get_or-drop, get_or_default, drop-drop}
use Rattle.std.proofs.lemmas.List.Elements.{All-head, All-tail, filter-append}
use Rattle.graph_words.specs.declared.types.Born.{Born}
use Rattle.graph_words.specs.declared.types.Edge.{Edge}
use Rattle.graph_words.specs.Reach.{IsBefore}
use Rattle.partition_file.specs.Spelling.{is_from, row_of}
use Rattle.closing_machine.specs.Rounds.{IsOrdered}
use Rattle.row_table.specs.Index.{AreBefore, NoneBelow, PartsEdgesAt}
use Rattle.row_table.specs.Loaded.{Loaded, IsLoaded, IsRow, LiesInSpan, LiesInHigh}
use Rattle.row_table.specs.declared.span.Span.{Span}
use Rattle.closing_machine.proofs.Members.{either}

pub filter_constant : (p : Born → Bool) (t : Bool) (xs : List Born) → All (λ b. p b ≡ t) xs → filter p xs ≡ cond t xs []
filter_constant p true [] all = refl
filter_constant p false [] all = refl
filter_constant p true (x ∷ xs) all =
    rw (All-head (λ (b : Born). p b ≡ true) x xs all, filter_constant p true xs (All-tail (λ (b : Born). p b ≡ true) x xs all)) refl
filter_constant p false (x ∷ xs) all =
    rw (All-head (λ (b : Born). p b ≡ false) x xs all, filter_constant p false xs (All-tail (λ (b : Born). p b ≡ false) x xs all)) refl

pub is_from_yes : (v : ℕ) (b : Born) → b.edge.src.0 ≡ v → is_from v b ≡ true
is_from_yes v b e = grind (arith, nat_tests)

pub is_from_no : (v : ℕ) (b : Born) → b.edge.src.0 ≢ v → is_from v b ≡ false
is_from_no v b e = grind (arith, nat_tests)

pub source_grows : (x y : Edge) → IsBefore x y → x.src.0 ≤ y.src.0
source_grows x y (inl lt) = omega arith
source_grows x y (inr e) = omega (arith, e.0)

-- ---- one more place

pub before_none : (edges : List Born) (v : ℕ) → AreBefore edges v 0
before_none edges v = record { within = omega arith; before = λ k d lt. absurd (omega arith) }

pub before_more : (edges : List Born) (v n : ℕ) → AreBefore edges v n → n < length edges → ((d : Born) → (get_or edges n d).edge.src.0 < v) → AreBefore edges v (n + 1)
before_more edges v n h lt here =
    record {
      within = omega arith;
      before = λ k d le. elim (cases_lt k n) [ inl l ↦ h.before k d l | inr g ↦ let e : k ≡ n = omega arith in rw e (here d) ];
    }

pub before_later : (edges : List Born) (v w n : ℕ) → v ≤ w → AreBefore edges v n → AreBefore edges w n
before_later edges v w n le h = record { within = h.within; before = λ k d lt. (let b : (get_or edges k d).edge.src.0 < v = h.before k d lt in omega arith) }

-- the first that doesn't begin before v parts the edges
pub parts_here : (edges : List Born) (v n : ℕ) → IsOrdered edges → AreBefore edges v n → n < length edges → ((d : Born) → v ≤ (get_or edges n d).edge.src.0) → PartsEdgesAt edges v n
parts_here edges v n ordered h lt here =
    record {
      front = h;
      behind = λ k d le end. elim (cases_lt n k) [
        | inl l ↦ (let g : (get_or edges n d).edge.src.0 ≤ (get_or edges k d).edge.src.0 = source_grows _ _ (ordered n k d l end) in let x : v ≤ (get_or edges n d).edge.src.0 = here d in omega arith)
        | inr g ↦ (let e : k ≡ n = omega arith in rw e (here d))
      ];
    }

module _ (edges : List Born) (v : ℕ) (ordered : IsOrdered edges) where
  -- those up to one that begins before v do so too
  pub before_up_to : (n : ℕ) (f : Born) → n < length edges → (get_or edges n f).edge.src.0 < v → AreBefore edges v (n + 1)
  before_up_to n f lt here =
      record {
        within = omega arith;
        before = λ k d le. (let at : (get_or edges n d).edge.src.0 < v = subst (λ (b : Born). b.edge.src.0 < v) (get_or_default edges n f d lt) here in
            elim (cases_lt k n) [
              | inl l ↦ (let g : (get_or edges k d).edge.src.0 ≤ (get_or edges n d).edge.src.0 = source_grows _ _ (ordered k n d l lt) in omega arith)
              | inr g ↦ (let e : n ≡ k = omega arith in subst (λ (j : ℕ). (get_or edges j d).edge.src.0 < v) e at)
            ]);
      }

  -- those from one on that doesn't don't either
  pub none_below : (n : ℕ) (f : Born) → n < length edges → v ≤ (get_or edges n f).edge.src.0 → NoneBelow edges v n
  none_below n f lt here k d le end =
      let at : v ≤ (get_or edges n d).edge.src.0 = subst (λ (b : Born). v ≤ b.edge.src.0) (get_or_default edges n f d lt) here in
      elim (cases_lt n k) [
        | inl l ↦ (let g : (get_or edges n d).edge.src.0 ≤ (get_or edges k d).edge.src.0 = source_grows _ _ (ordered n k d l end) in omega arith)
        | inr g ↦ (let e : n ≡ k = omega arith in subst (λ (j : ℕ). v ≤ (get_or edges j d).edge.src.0) e at)
      ]

pub none_below_end : (edges : List Born) (v : ℕ) → NoneBelow edges v (length edges)
none_below_end edges v k d le lt = absurd (omega arith)

pub parts_end : (edges : List Born) (v n : ℕ) → AreBefore edges v n → length edges ≤ n → PartsEdgesAt edges v n
parts_end edges v n h le = record { front = h; behind = λ k d a b. absurd (omega arith) }

-- ---- the row between

abbrev pub some_born : Born
some_born = record { edge = record { src = record { 0 = 0 }; label = record { 0 = 0 }; dst = record { 0 = 0 } }; birth = 0 }

-- sources do not fall
pub sources_grow : (edges : List Born) → IsOrdered edges → (i j : ℕ) → i ≤ j → j < length edges → (get_or edges i some_born).edge.src.0 ≤ (get_or edges j some_born).edge.src.0
sources_grow edges sorted i j le lt =
    elim (cases_lt i j) [
      | inl l ↦ source_grows _ _ (sorted i j some_born l lt)
      | inr g ↦ (let e : i ≡ j = omega arith in subst (λ (k : ℕ). (get_or edges i some_born).edge.src.0 ≤ (get_or edges k some_born).edge.src.0) e (omega arith))
    ]

module _ (edges : List Born) (v p q : ℕ) (first : PartsEdgesAt edges v p) (second : PartsEdgesAt edges (v + 1) q) where
  pub in_order : p ≤ q
  in_order =
      elim (cases_lt q p) [
        | inl lt ↦ absurd (
            let below : (get_or edges q some_born).edge.src.0 < v = first.front.before q some_born lt in
            let end : p ≤ length edges = first.front.within in
            let above : v + 1 ≤ (get_or edges q some_born).edge.src.0 = second.behind q some_born (omega arith) (omega arith) in
            omega arith)
        | inr le ↦ le
      ]

  pub within : q ≤ length edges
  within = second.front.within

  front_fails : All (λ b. is_from v b ≡ false) (take p edges)
  front_fails k d lt =
      let end : p ≤ length edges = first.front.within in
      let l : k < p = (let e = length-take p edges in omega arith) in
      let below : (get_or edges k d).edge.src.0 < v = first.front.before k d l in
      rw (get_or-take p edges k d l) (is_from_no v (get_or edges k d) (omega arith))

  row_passes : All (λ b. is_from v b ≡ true) (take (q - p) (drop p edges))
  row_passes k d lt =
      let end : q ≤ length edges = within in
      let le = in_order in
      let l : k < q - p = (let e = length-take (q - p) (drop p edges) in omega arith) in
      let below : (get_or edges (p + k) d).edge.src.0 < v + 1 = second.front.before (p + k) d (omega arith) in
      let above : v ≤ (get_or edges (p + k) d).edge.src.0 = first.behind (p + k) d (omega arith) (omega arith) in
      rw (get_or-take (q - p) (drop p edges) k d l, get_or-drop p edges k d) (is_from_yes v (get_or edges (p + k) d) (omega arith))

  behind_fails : All (λ b. is_from v b ≡ false) (drop q edges)
  behind_fails k d lt =
      let l : q + k < length edges = (let e = length-drop q edges in omega arith) in
      let above : v + 1 ≤ (get_or edges (q + k) d).edge.src.0 = second.behind (q + k) d (omega arith) l in
      rw (get_or-drop q edges k d) (is_from_no v (get_or edges (q + k) d) (omega arith))

  pub row_between : take (q - p) (drop p edges) ≡ row_of v edges
  row_between =
      let row = take (q - p) (drop p edges) in
      let rest : drop p edges ≡ row ++ drop q edges = sym (take-append-drop (q - p) (drop p edges)) ∙ ap (λ (n : List Born). row ++ n) (drop-drop (q - p) p edges ∙ ap (λ (n : ℕ). drop n edges) (let le = in_order in omega arith)) in
      let whole : edges ≡ take p edges ++ (row ++ drop q edges) = sym (take-append-drop p edges) ∙ ap (λ (l : List Born). take p edges ++ l) rest in
      let test = is_from v in
      sym (ap (filter test) whole
      ∙ filter-append test (take p edges) (row ++ drop q edges)
      ∙ ap (λ (l : List Born). l ++ filter test (row ++ drop q edges)) (filter_constant test false (take p edges) front_fails)
      ∙ filter-append test row (drop q edges)
      ∙ ap (λ (l : List Born). l ++ filter test (drop q edges)) (filter_constant test true row row_passes)
      ∙ ap (λ (l : List Born). row ++ l) (filter_constant test false (drop q edges) behind_fails)
      ∙ append-nil row)

-- a vertex of no interval has no row
pub no_row : (l : Loaded) (v : ℕ) → IsLoaded l → (IsRow l v → ⊥) → row_of v l.edges ≡ []
no_row l v h none =
    filter_constant (is_from v) false l.edges (λ k d lt. is_from_no v (get_or l.edges k d) (λ e. none (subst (λ (u : ℕ). IsRow l u) e (h.sources k d lt))))

pub no_row_at_none : (l m : Loaded) (v : ℕ) → l ≡ m → IsLoaded l → l.high ≡ None → (LiesInSpan l.low v → ⊥) → [] ≡ row_of v m.edges
no_row_at_none l m v same h e none = subst (λ (x : Loaded). [] ≡ row_of v x.edges) same (sym (no_row l v h (λ r. either none (λ (x : LiesInHigh l.high v). rw e at x) r)))

pub no_row_at_some : (l m : Loaded) (s : Span) (v : ℕ) → l ≡ m → IsLoaded l → l.high ≡ Some s → (LiesInSpan l.low v → ⊥) → (LiesInSpan s v → ⊥) → [] ≡ row_of v m.edges
no_row_at_some l m s v same h e none nor = subst (λ (x : Loaded). [] ≡ row_of v x.edges) same (sym (no_row l v h (λ r. either none (λ (x : LiesInHigh l.high v). nor (rw e at x)) r)))

-- The joins of a vertex, label after label, and those of a round, vertex after vertex.
use Rattle.std.proofs.Common.{◌≡◌, ℕ, suc, ◌+◌, ◌<◌, ◌≤◌, ◌⊎◌, Bool, eqb, Option, Some, None, List, [], ◌∷◌, ◌++◌, length, get_or, map, take, refl, sym, ap, subst, ◌∙◌, append_assoc, arith, inl, inr}
use Rattle.std.specs.Prelude.{All, AllPairs, Contains}
use Rattle.std.specs.List.{IsDistinct}
use Rattle.std.specs.List.Sorted.{IsPermutation, IsSorted}
use Rattle.std.specs.Ordering.{nat_cmp}
use Rattle.std.proofs.lemmas.Bool.{cases_lt}
use Rattle.std.proofs.lemmas.List.{length-append, length-map, get_or-map, get_or_append_left, get_or_at, append-nil, take_more}
use Rattle.std.proofs.lemmas.List.Quantifiers.{all_pairs_push}
use Rattle.std.proofs.lemmas.List.Elements.{All-append, All-contains, All-weaker, All-map, All-nil, All-push, Contains-append_left, Contains-append_right, Contains-push, Contains-push_cases}
use Rattle.std.proofs.lemmas.List.Sorted.{Contains-permutation, IsPermutation-sym, IsNonDecreasingBy-from_sort}
use Rattle.std.proofs.lemmas.List.Kept.{AllPairs-cons, AllPairs-from_increasing}
use Rattle.std.proofs.lemmas.Map.Keys.{IsDistinct-IsPermutation, IsStrictlyIncreasing-from_distinct}
use Rattle.std.proofs.lemmas.Cmp.{nat_eq_equiv}
use Rattle.graph_words.specs.declared.types.Vertex.{Vertex}
use Rattle.graph_words.specs.declared.types.LabelId.{LabelId}
use Rattle.graph_words.specs.declared.types.Edge.{Edge}
use Rattle.graph_words.specs.declared.types.Born.{Born}
use Rattle.graph_words.specs.Reach.{IsBefore, IsAscending, edge}
use Rattle.normal_law.specs.Closure.{Normal}
use Rattle.partition_file.specs.Spelling.{row_of}
use Rattle.closing_machine.specs.Rounds.{IsCandidate, IsRound, HasEdge, born}
use Rattle.closing_machine.proofs.Members.{either, All-from_members}
use Rattle.row_table.specs.declared.blocks.Block.{Block}
use Rattle.row_table.specs.declared.span.Span.{Span}
use Rattle.row_table.specs.Loaded.{Loaded, IsLoaded, IsRow, IsBehind, LiesInSpan, LiesInHigh}
use Rattle.row_table.specs.Sieve.{HasNumber, IsEmptySet}
use Rattle.row_table.specs.Joined.{BlocksHave, GivesEnd, GivesJoins, IsJoinOf, HasEnd, MarksEnds, Sifts, LabelJoins, AppendsLabel, AppendsLacking, JoinsBelow, AppendsBelow, IsNextLabel, JoinsWhere, AppendsJoins, vertex}
use Rattle.row_table.proofs.SearchLemmas.{row_has, from_row}

-- ---- lists

pub pairs_append : {X : Type 0} (R : X → X → Type 0) (xs ys : List X) → AllPairs R xs → AllPairs R ys → ((x y : X) → Contains xs x → Contains ys y → R x y) → AllPairs R (xs ++ ys)
pairs_append R [] ys hx hy before = hy
pairs_append R (x ∷ xs) ys hx hy before =
    AllPairs-cons R x (xs ++ ys)
    (All-append (R x) xs ys (λ k d lt. hx 0 (suc k) d (omega arith) (omega arith)) (All-from_members (R x) ys (λ y m. before x y (0, omega arith, refl) m)))
    (pairs_append R xs ys (λ i j d lt le. hx (suc i) (suc j) d (omega arith) (omega arith)) hy (λ a b ma mb. before a b (suc ma.0, omega (arith, ma.1), ma.2) mb))

contains_map : {X Y : Type 0} (f : X → Y) (xs : List X) (x : X) → Contains xs x → Contains (map f xs) (f x)
contains_map f xs x m = (m.0, (let l : length (map f xs) ≡ length xs = length-map xs f in omega (arith, m.1)), get_or-map f xs m.0 x (f x) m.1 ∙ ap f m.2)

same_label : (x y : LabelId) → x.0 ≡ y.0 → x ≡ y
same_label x y e = let f : ℕ → LabelId = λ i. record { 0 = i } in ap f e

pub same_vertex : (x y : Vertex) → x.0 ≡ y.0 → x ≡ y
same_vertex x y e = let f : ℕ → Vertex = λ i. record { 0 = i } in ap f e

none_distinct : IsDistinct eqb []
unfolding IsDistinct
none_distinct = tt

-- ---- one label

-- the ends that are found, each once, in order
module _ (blocks : List Block) (a : LabelId) (marked after : List Bool) (found sorted : List ℕ) (sifts : Sifts (GivesEnd blocks a) marked after [] found) (same : IsPermutation found sorted) where
  rises : IsSorted nat_cmp sorted → AllPairs (λ (x y : ℕ). x < y) sorted
  rises up = AllPairs-from_increasing sorted (IsStrictlyIncreasing-from_distinct sorted (IsNonDecreasingBy-from_sort (λ (x : ℕ). x) sorted up) once)
    where
      once : IsDistinct eqb sorted
      once = IsDistinct-IsPermutation eqb nat_eq_equiv.symm found sorted same (sifts.once (All-nil (HasNumber marked)) none_distinct).1

  was_found : (w : ℕ) → Contains sorted w → (HasNumber marked w → ⊥) × GivesEnd blocks a w
  was_found w m =
      either
      (λ (n : Contains [] w). absurd (let l : n.0 < 0 = n.1 in omega arith))
      (λ (p : (HasNumber marked w → ⊥) × GivesEnd blocks a w). p)
      (sifts.only w (Contains-permutation sorted found w (IsPermutation-sym found sorted same) m))

module _ (row : List Born) (u : Vertex) (blocks : List Block) (a : LabelId) (source : All (λ b. b.edge.src ≡ u) row) where
  edge_to : ℕ → Edge
  edge_to w = edge u a (vertex w)

  has_end : (w : ℕ) → HasEdge row (edge u a (vertex w)) → HasEnd row a w
  has_end w h = (born (edge u a (vertex w)) h.0, h.1, refl, refl)

  has_edge : (w : Vertex) → HasEnd row a w.0 → HasEdge row (edge u a w)
  has_edge w h =
      let s : h.0.edge.src ≡ u = All-contains (λ (b : Born). b.edge.src ≡ u) row h.0 source h.1 in
      let d : h.0.edge.dst ≡ w = same_vertex h.0.edge.dst w h.3 in
      let make : Vertex → LabelId → Vertex → Born = λ x l y. born (edge x l y) h.0.birth in
      let e : h.0 ≡ make u a w = ap (λ (x : Vertex). make x h.0.edge.label h.0.edge.dst) s ∙ ap (λ (l : LabelId). make u l h.0.edge.dst) h.2 ∙ ap (λ (y : Vertex). make u a y) d in
      (h.0.birth, subst (λ (b : Born). Contains row b) e h.1)

  module _ (none marked after : List Bool) (found sorted : List ℕ) (empty : IsEmptySet none) (marks : MarksEnds (HasEnd row a) none marked) (sifts : Sifts (GivesEnd blocks a) marked after [] found) (same : IsPermutation found sorted) (up : IsSorted nat_cmp sorted) where
    abbrev IsOne : Edge → Type 0
    IsOne e = (e.src ≡ u) × (e.label ≡ a) × BlocksHave blocks a e.dst × (HasEdge row e → ⊥)

    each_is : All IsOne (map (λ w. edge u a (vertex w)) sorted)
    each_is =
        All-map IsOne (λ (w : ℕ). edge u a (vertex w)) sorted
        (All-from_members (λ (w : ℕ). IsOne (edge u a (vertex w))) sorted (λ w m. let f = was_found blocks a marked after found sorted sifts same w m in (refl, refl, f.1, λ h. f.0 (marks.has w (has_end w h)))))

    all_are : (w : Vertex) → BlocksHave blocks a w → HasEdge row (edge u a w) ⊎ Contains (map (λ w. edge u a (vertex w)) sorted) (edge u a w)
    all_are w g =
        either
        (λ (h : HasNumber marked w.0). either (λ (n : HasNumber none w.0). absurd (empty w.0 n)) (λ (e : HasEnd row a w.0). inl (has_edge w e)) (marks.only w.0 h))
        (λ (m : Contains found w.0). inr (contains_map (λ (w : ℕ). edge u a (vertex w)) sorted w.0 (Contains-permutation found sorted w.0 same m)))
        (sifts.has w.0 g)

    ascends : IsAscending (map (λ w. edge u a (vertex w)) sorted)
    ascends i j d lt end =
        let l : length (map (λ (w : ℕ). edge u a (vertex w)) sorted) ≡ length sorted = length-map sorted (λ (w : ℕ). edge u a (vertex w)) in
        let x = get_or-map (λ (w : ℕ). edge u a (vertex w)) sorted i 0 d (omega arith) in
        let y = get_or-map (λ (w : ℕ). edge u a (vertex w)) sorted j 0 d (omega arith) in
        rw (x, y) (inr (refl, inr (refl, rises blocks a marked after found sorted sifts same up i j 0 lt (omega arith))))

    pub label_joins : LabelJoins row u blocks a (map (λ w. edge u a (vertex w)) sorted)
    label_joins = record { each = each_is; all = all_are; ascending = ascends }

-- each of them was looked for in the row
pub searched_joins : (row : List Born) (u : Vertex) (blocks : List Block) (a : LabelId) (none after : List Bool) (found sorted : List ℕ) → IsEmptySet none → Sifts (GivesEnd blocks a) none after [] found → IsPermutation found sorted → IsSorted nat_cmp sorted → (before out : List Edge) → AppendsLacking row u a sorted before out → AppendsLabel row u blocks a before out
searched_joins row u blocks a none after found sorted empty sifts same up before out l =
    record {
      new = l.new;
      behind = l.behind;
      are = record {
        each = All-weaker (λ (e : Edge). (e.src ≡ u) × (e.label ≡ a) × Contains sorted e.dst.0 × (HasEdge row e → ⊥)) (λ (e : Edge). (e.src ≡ u) × (e.label ≡ a) × BlocksHave blocks a e.dst × (HasEdge row e → ⊥)) (λ e h. (h.0, h.1, (was_found blocks a none after found sorted sifts same e.dst.0 h.2).1, h.3)) l.new l.each;
        all = λ w g. either (λ (n : HasNumber none w.0). absurd (empty w.0 n)) (λ (m : Contains found w.0). l.all w.0 (Contains-permutation found sorted w.0 same m)) (sifts.has w.0 g);
        ascending = l.ascending (rises blocks a none after found sorted sifts same up);
      };
    }

module _ (row : List Born) (u : Vertex) (a : LabelId) where
  pub lacking_none : (out : List Edge) → AppendsLacking row u a [] out out
  lacking_none out =
      record {
        new = [];
        behind = sym (append-nil out);
        each = All-nil (λ (e : Edge). (e.src ≡ u) × (e.label ≡ a) × Contains [] e.dst.0 × (HasEdge row e → ⊥));
        all = λ w m. absurd (let l : m.0 < 0 = m.1 in omega arith);
        ascending = λ up i j d lt end. absurd (omega arith);
      }

  module _ (ends : List ℕ) (i : ℕ) (d : ℕ) (lt : i < length ends) (before now : List Edge) (l : AppendsLacking row u a (take i ends) before now) where
    abbrev w : ℕ
    w = get_or ends i d

    abbrev longer : List ℕ
    longer = take i ends ++ w ∷ []

    each_longer : All (λ e. (e.src ≡ u) × (e.label ≡ a) × Contains longer e.dst.0 × (HasEdge row e → ⊥)) l.new
    each_longer = All-weaker (λ (e : Edge). (e.src ≡ u) × (e.label ≡ a) × Contains (take i ends) e.dst.0 × (HasEdge row e → ⊥)) (λ (e : Edge). (e.src ≡ u) × (e.label ≡ a) × Contains longer e.dst.0 × (HasEdge row e → ⊥)) (λ e h. (h.0, h.1, Contains-append_left (take i ends) (w ∷ []) e.dst.0 h.2, h.3)) l.new l.each

    front_up : AllPairs (λ (x y : ℕ). x < y) longer → AllPairs (λ (x y : ℕ). x < y) (take i ends)
    front_up up j k f less end =
        let a : length longer ≡ length (take i ends) + 1 = length-append (take i ends) (w ∷ []) in
        rw (sym (get_or_append_left (take i ends) (w ∷ []) f j (omega arith)), sym (get_or_append_left (take i ends) (w ∷ []) f k end)) (up j k f less (omega arith))

    below_last : AllPairs (λ (x y : ℕ). x < y) longer → (v : ℕ) → Contains (take i ends) v → v < w
    below_last up v m =
        let a : length longer ≡ length (take i ends) + 1 = length-append (take i ends) (w ∷ []) in
        let h = up m.0 (length (take i ends)) v m.1 (omega arith) in
        let x : get_or longer m.0 v ≡ v = get_or_append_left (take i ends) (w ∷ []) v m.0 m.1 ∙ m.2 in
        let y : get_or longer (length (take i ends)) v ≡ w = get_or_at (take i ends) w [] v (length (take i ends)) refl in
        rw (x, y) at h

    pub lacking_skip : HasEdge row (edge u a (vertex w)) → AppendsLacking row u a (take (i + 1) ends) before now
    lacking_skip has =
        rw (take_more ends i d lt) (record {
          new = l.new;
          behind = l.behind;
          each = each_longer;
          all = λ v m. either (λ (f : Contains (take i ends) v). l.all v f) (λ (s : w ≡ v). inl (subst (λ (x : ℕ). HasEdge row (edge u a (vertex x))) s has)) (Contains-push_cases (take i ends) w v m);
          ascending = λ up. l.ascending (front_up up);
        })

    pub lacking_more : (HasEdge row (edge u a (vertex w)) → ⊥) → AppendsLacking row u a (take (i + 1) ends) before (now ++ edge u a (vertex w) ∷ [])
    lacking_more lacks =
        rw (take_more ends i d lt) (record {
          new = l.new ++ edge u a (vertex w) ∷ [];
          behind = ap (λ (x : List Edge). x ++ edge u a (vertex w) ∷ []) l.behind ∙ append_assoc before l.new (edge u a (vertex w) ∷ []);
          each = All-push (λ (e : Edge). (e.src ≡ u) × (e.label ≡ a) × Contains longer e.dst.0 × (HasEdge row e → ⊥)) l.new (edge u a (vertex w)) each_longer (refl, refl, Contains-push (take i ends) w, lacks);
          all = λ v m. either
              (λ (f : Contains (take i ends) v). either (λ (h : HasEdge row (edge u a (vertex v))). inl h) (λ (h : Contains l.new (edge u a (vertex v))). inr (Contains-append_left l.new (edge u a (vertex w) ∷ []) (edge u a (vertex v)) h)) (l.all v f))
              (λ (s : w ≡ v). inr (subst (λ (x : ℕ). Contains (l.new ++ edge u a (vertex w) ∷ []) (edge u a (vertex x))) s (Contains-push l.new (edge u a (vertex w)))))
              (Contains-push_cases (take i ends) w v m);
          ascending = λ up. all_pairs_push IsBefore l.new (edge u a (vertex w)) (l.ascending (front_up up)) (λ k f less. let h = l.each k f less in before_last (get_or l.new k f) h.0 h.1 (below_last up (get_or l.new k f).dst.0 h.2));
        })
      where
        before_last : (e : Edge) → e.src ≡ u → e.label ≡ a → e.dst.0 < w → IsBefore e (edge u a (vertex w))
        before_last e s t less = inr (ap (λ (x : Vertex). x.0) s, inr (ap (λ (x : LabelId). x.0) t, less))

    -- the edge is pushed unless the row has it
    pub lacking_next : (after : List Edge) → (HasEdge row (edge u a (vertex w)) × (after ≡ now)) ⊎ ((HasEdge row (edge u a (vertex w)) → ⊥) × (after ≡ now ++ edge u a (vertex w) ∷ [])) → AppendsLacking row u a (take (i + 1) ends) before after
    lacking_next after o =
        either
        (λ (h : HasEdge row (edge u a (vertex w)) × (after ≡ now)). subst (λ (x : List Edge). AppendsLacking row u a (take (i + 1) ends) before x) (sym h.1) (lacking_skip h.0))
        (λ (h : (HasEdge row (edge u a (vertex w)) → ⊥) × (after ≡ now ++ edge u a (vertex w) ∷ [])). subst (λ (x : List Edge). AppendsLacking row u a (take (i + 1) ends) before x) (sym h.1) (lacking_more h.0))
        o

-- ---- label after label

module _ (row : List Born) (u : Vertex) (blocks : List Block) where
  abbrev IsBelow : ℕ → Edge → Type 0
  IsBelow k e = (e.src ≡ u) × (e.label.0 < k) × BlocksHave blocks e.label e.dst × (HasEdge row e → ⊥)

  pub below_none : (next : ℕ) (out : List Edge) → IsNextLabel blocks 0 next → AppendsBelow row u blocks next out out
  below_none next out n =
      record {
        new = [];
        behind = sym (append-nil out);
        are = record {
          each = All-nil (IsBelow next);
          all = λ a w lt g. absurd (either (λ (l : g.0.label.0 < 0). let z : g.0.label.0 < 0 = l in omega arith) (λ (l : (next ≤ g.0.label.0) × (g.0.label.0 < 65536)). let e : g.0.label.0 ≡ a.0 = ap (λ (x : LabelId). x.0) g.2 in omega (arith, l.0)) (All-contains (λ (k : Block). (k.label.0 < 0) ⊎ ((next ≤ k.label.0) × (k.label.0 < 65536))) blocks g.0 n.none g.1));
          ascending = λ i j d lt end. absurd (omega arith);
        };
      }

  module _ (k next : ℕ) (a : LabelId) (before now after : List Edge) (is : a.0 ≡ k) (f : AppendsBelow row u blocks k before now) (l : AppendsLabel row u blocks a now after) (n : IsNextLabel blocks (k + 1) next) where
    abbrev both : List Edge
    both = f.new ++ l.new

    on : k < next
    on = let o : k + 1 ≤ next = n.on in omega arith

    each_below : All (IsBelow next) both
    each_below =
        All-append (IsBelow next) f.new l.new
        (All-weaker (IsBelow k) (IsBelow next) (λ e p. (p.0, (let lt = on in omega (arith, p.1)), p.2, p.3)) f.new f.are.each)
        (All-weaker (λ (e : Edge). (e.src ≡ u) × (e.label ≡ a) × BlocksHave blocks a e.dst × (HasEdge row e → ⊥)) (IsBelow next) (λ e p. (p.0, (let lt = on in let q : e.label.0 ≡ a.0 = ap (λ (x : LabelId). x.0) p.1 in omega arith), subst (λ (x : LabelId). BlocksHave blocks x e.dst) (sym p.1) p.2, p.3)) l.new l.are.each)

    all_below : (b : LabelId) (w : Vertex) → b.0 < next → BlocksHave blocks b w → HasEdge row (edge u b w) ⊎ Contains both (edge u b w)
    all_below b w lt g =
        elim (cases_lt b.0 k) [
          | inl less ↦ either (λ (h : HasEdge row (edge u b w)). inl h) (λ (m : Contains f.new (edge u b w)). inr (Contains-append_left f.new l.new (edge u b w) m)) (f.are.all b w less g)
          | inr ge ↦ elim (cases_lt k b.0) [
            | inl more ↦ absurd (either (λ (x : g.0.label.0 < k + 1). let e : g.0.label.0 ≡ b.0 = ap (λ (y : LabelId). y.0) g.2 in let z : g.0.label.0 < k + 1 = x in omega arith) (λ (x : (next ≤ g.0.label.0) × (g.0.label.0 < 65536)). let e : g.0.label.0 ≡ b.0 = ap (λ (y : LabelId). y.0) g.2 in omega (arith, x.0)) (All-contains (λ (x : Block). (x.label.0 < k + 1) ⊎ ((next ≤ x.label.0) × (x.label.0 < 65536))) blocks g.0 n.none g.1))
            | inr le ↦ (
                let same : a ≡ b = same_label a b (omega arith) in
                subst (λ (x : LabelId). HasEdge row (edge u x w) ⊎ Contains both (edge u x w)) same
                (either (λ (h : HasEdge row (edge u a w)). inl h) (λ (m : Contains l.new (edge u a w)). inr (Contains-append_right f.new l.new (edge u a w) m)) (l.are.all w (subst (λ (x : LabelId). BlocksHave blocks x w) (sym same) g))))
          ]
        ]

    in_order : (x y : Edge) → Contains f.new x → Contains l.new y → IsBefore x y
    in_order x y mx my =
        let p = All-contains (IsBelow k) f.new x f.are.each mx in
        let q = All-contains (λ (e : Edge). (e.src ≡ u) × (e.label ≡ a) × BlocksHave blocks a e.dst × (HasEdge row e → ⊥)) l.new y l.are.each my in
        let s : x.src.0 ≡ y.src.0 = ap (λ (v : Vertex). v.0) (p.0 ∙ sym q.0) in
        let t : y.label.0 ≡ a.0 = ap (λ (v : LabelId). v.0) q.1 in
        inr (s, inl (omega (arith, p.1)))

    pub below_more : AppendsBelow row u blocks next before after
    below_more =
        record {
          new = both;
          behind = l.behind ∙ ap (λ (x : List Edge). x ++ l.new) f.behind ∙ append_assoc before f.new l.new;
          are = record { each = each_below; all = all_below; ascending = pairs_append IsBefore f.new l.new f.are.ascending l.are.ascending in_order };
        }

pub labels_are_small : (blocks : List Block) (next : ℕ) → IsNextLabel blocks 0 next → All (λ k. k.label.0 < 65536) blocks
labels_are_small blocks next n = All-weaker (λ (k : Block). (k.label.0 < 0) ⊎ ((next ≤ k.label.0) × (k.label.0 < 65536))) (λ (k : Block). k.label.0 < 65536) (λ k h. either (λ (l : k.label.0 < 0). absurd (omega arith)) (λ (l : (next ≤ k.label.0) × (k.label.0 < 65536)). l.1) h) blocks n.none

-- ---- all joins of a vertex

pub row_sources : (u : Vertex) (edges : List Born) → All (λ b. b.edge.src ≡ u) (row_of u.0 edges)
row_sources u edges = All-from_members (λ (b : Born). b.edge.src ≡ u) (row_of u.0 edges) (λ b m. same_vertex b.edge.src u (from_row edges b u.0 m).1)

module _ (edges : List Born) (IsOne : Edge → Type 0) (u : Vertex) (blocks : List Block) (gives : GivesJoins IsOne u blocks) where
  abbrev IsBelowAll : Edge → Type 0
  IsBelowAll e = (e.src ≡ u) × (e.label.0 < 65536) × BlocksHave blocks e.label e.dst × (HasEdge (row_of u.0 edges) e → ⊥)

  same_edge : (e : Edge) → e.src ≡ u → edge u e.label e.dst ≡ e
  same_edge e s = ap (λ (x : Vertex). edge x e.label e.dst) (sym s)

  in_row : (e : Edge) → e.src ≡ u → HasEdge edges e → HasEdge (row_of u.0 edges) e
  in_row e s h = subst (λ (x : Vertex). HasEdge (row_of x.0 edges) e) s ((row_has edges e).1 h)

  module _ (new : List Edge) (j : JoinsBelow (row_of u.0 edges) u blocks 65536 new) (few : All (λ k. k.label.0 < 65536) blocks) where
    labels : (a : LabelId) (w : Vertex) → BlocksHave blocks a w → a.0 < 65536
    labels a w g = subst (λ (l : LabelId). l.0 < 65536) g.2 (All-contains (λ (k : Block). k.label.0 < 65536) blocks g.0 few g.1)

    pub joins_from : JoinsWhere edges IsOne (λ v. v ≡ u.0) new
    joins_from =
        record {
          joins = All-weaker IsBelowAll IsOne (λ e p. subst IsOne (same_edge e p.0) ((gives e.label e.dst).0 p.2)) new j.each;
          sources = All-weaker IsBelowAll (λ (e : Edge). e.src.0 ≡ u.0) (λ e p. ap (λ (v : Vertex). v.0) p.0) new j.each;
          absent = All-weaker IsBelowAll (λ (e : Edge). HasEdge edges e → ⊥) (λ e p h. p.3 (in_row e p.0 h)) new j.each;
          complete = λ e c s. all e c (same_vertex e.src u s);
          ascending = j.ascending;
        }
      where
        all : (e : Edge) → IsOne e → e.src ≡ u → HasEdge edges e ⊎ Contains new e
        all e c s =
            let g : BlocksHave blocks e.label e.dst = (gives e.label e.dst).1 (subst IsOne (sym (same_edge e s)) c) in
            subst (λ (y : Edge). HasEdge edges y ⊎ Contains new y) (same_edge e s)
            (either (λ (h : HasEdge (row_of u.0 edges) (edge u e.label e.dst)). inl ((row_has edges (edge u e.label e.dst)).0 h)) (λ (m : Contains new (edge u e.label e.dst)). inr m) (j.all e.label e.dst (labels e.label e.dst g) g))

-- ---- vertex after vertex

pub appends_idle : (edges : List Born) (IsOne : Edge → Type 0) (P : ℕ → Type 0) (out : List Edge) → ((e : Edge) → IsOne e → P e.src.0 → ⊥) → AppendsJoins edges IsOne P out out
appends_idle edges IsOne P out none =
    record {
      new = [];
      behind = sym (append-nil out);
      are = record {
        joins = All-nil IsOne;
        sources = All-nil (λ (e : Edge). P e.src.0);
        absent = All-nil (λ (e : Edge). HasEdge edges e → ⊥);
        complete = λ e c p. absurd (none e c p);
        ascending = λ i j d lt end. absurd (omega arith);
      };
    }

pub appends_none : (edges : List Born) (IsOne : Edge → Type 0) (P : ℕ → Type 0) (out : List Edge) → ((v : ℕ) → P v → ⊥) → AppendsJoins edges IsOne P out out
appends_none edges IsOne P out none = appends_idle edges IsOne P out (λ e c p. none e.src.0 p)

module _ (edges : List Born) (IsOne : Edge → Type 0) (P Q R : ℕ → Type 0) (to : (v : ℕ) → R v → P v ⊎ Q v) (back : (v : ℕ) → P v ⊎ Q v → R v) (before : (v w : ℕ) → P v → Q w → v < w) where
  joins_both : (xs ys : List Edge) → JoinsWhere edges IsOne P xs → JoinsWhere edges IsOne Q ys → JoinsWhere edges IsOne R (xs ++ ys)
  joins_both xs ys f g =
      record {
        joins = All-append IsOne xs ys f.joins g.joins;
        sources = All-append (λ (e : Edge). R e.src.0) xs ys (All-weaker (λ (e : Edge). P e.src.0) (λ (e : Edge). R e.src.0) (λ e p. back e.src.0 (inl p)) xs f.sources) (All-weaker (λ (e : Edge). Q e.src.0) (λ (e : Edge). R e.src.0) (λ e q. back e.src.0 (inr q)) ys g.sources);
        absent = All-append (λ (e : Edge). HasEdge edges e → ⊥) xs ys f.absent g.absent;
        complete = λ e c r. either (λ (p : P e.src.0). either (λ (h : HasEdge edges e). inl h) (λ (m : Contains xs e). inr (Contains-append_left xs ys e m)) (f.complete e c p)) (λ (q : Q e.src.0). either (λ (h : HasEdge edges e). inl h) (λ (m : Contains ys e). inr (Contains-append_right xs ys e m)) (g.complete e c q)) (to e.src.0 r);
        ascending = pairs_append IsBefore xs ys f.ascending g.ascending (λ x y mx my. inl (before x.src.0 y.src.0 (All-contains (λ (e : Edge). P e.src.0) xs x f.sources mx) (All-contains (λ (e : Edge). Q e.src.0) ys y g.sources my)));
      }

  pub appends_both : (start mid end : List Edge) → AppendsJoins edges IsOne P start mid → AppendsJoins edges IsOne Q mid end → AppendsJoins edges IsOne R start end
  appends_both start mid end f g =
      record {
        new = f.new ++ g.new;
        behind = g.behind ∙ ap (λ (x : List Edge). x ++ g.new) f.behind ∙ append_assoc start f.new g.new;
        are = joins_both f.new g.new f.are g.are;
      }

module _ (edges : List Born) (IsOne : Edge → Type 0) (low : ℕ) where
  pub vertices_none : (out : List Edge) → AppendsJoins edges IsOne (λ v. (low ≤ v) × (v < low)) out out
  vertices_none out = appends_none edges IsOne (λ v. (low ≤ v) × (v < low)) out (λ v p. omega (arith, p.0, p.1))

  pub vertices_more : (v : ℕ) (start mid end : List Edge) → low ≤ v → AppendsJoins edges IsOne (λ w. (low ≤ w) × (w < v)) start mid → AppendsJoins edges IsOne (λ w. w ≡ v) mid end → AppendsJoins edges IsOne (λ w. (low ≤ w) × (w < v + 1)) start end
  vertices_more v start mid end le f g =
      appends_both edges IsOne (λ w. (low ≤ w) × (w < v)) (λ w. w ≡ v) (λ w. (low ≤ w) × (w < v + 1))
      (λ w p. elim (cases_lt w v) [ inl lt ↦ inl (p.0, lt) | inr ge ↦ inr (let l : w < v + 1 = p.1 in omega arith) ])
      (λ w o. either (λ (p : (low ≤ w) × (w < v)). (p.0, omega (arith, p.1))) (λ (e : w ≡ v). (omega arith, omega arith)) o)
      (λ w x p e. omega (arith, p.1, e))
      start mid end f g

-- ---- the joins from all vertices

-- all joins of a sort that the edges lack, in order
pub record AllJoins (edges : List Born) (IsOne : Edge → Type 0) (new : List Edge) : Type 0 where
  pub joins : All IsOne new
  pub absent : All (λ e. HasEdge edges e → ⊥) new
  pub complete : (e : Edge) → IsOne e → HasEdge edges e ⊎ Contains new e
  pub ascending : IsAscending new

pub spans_behind : (l : Loaded) → IsLoaded l → (v w : ℕ) → LiesInSpan l.low v → LiesInHigh l.high w → v < w
spans_behind l h v w p q = behind_low l.low l.high h.behind v w p q
  where
    behind_low : (low : Span) (high : Option Span) → IsBehind low high → (v w : ℕ) → LiesInSpan low v → LiesInHigh high w → v < w
    behind_low low None b v w p q = absurd q
    behind_low low (Some s) b v w p q = omega (arith, p.1, b.0, q.0)

pub two_spans : (l : Loaded) (IsOne : Edge → Type 0) (mid end : List Edge) → IsLoaded l → ((e : Edge) → IsOne e → IsRow l e.src.0) → AppendsJoins l.edges IsOne (LiesInSpan l.low) [] mid → AppendsJoins l.edges IsOne (LiesInHigh l.high) mid end → AllJoins l.edges IsOne end
two_spans l IsOne mid end h from f g =
    let a = appends_both l.edges IsOne (LiesInSpan l.low) (LiesInHigh l.high) (IsRow l) (λ v r. r) (λ v o. o) (spans_behind l h) [] mid end f g in
    rw a.behind (record { joins = a.are.joins; absent = a.are.absent; complete = λ e c. a.are.complete e c (from e c); ascending = a.are.ascending })

source_is_row : (n : Normal) (l : Loaded) (since : ℕ) → IsLoaded l → (x : Vertex) (e : Edge) → IsCandidate n l.edges since x e → IsRow l e.src.0
source_is_row n l since h x e c = subst (λ (v : Vertex). IsRow l v.0) (sym c.join.source) (All-contains (λ (b : Born). IsRow l b.edge.src.0) l.edges c.first h.sources c.has_first)

pub all_joins_are_round : (n : Normal) (l : Loaded) (since : ℕ) (mid end : List Edge) → IsLoaded l → AppendsJoins l.edges (IsJoinOf n l.edges since) (LiesInSpan l.low) [] mid → AppendsJoins l.edges (IsJoinOf n l.edges since) (LiesInHigh l.high) mid end → IsRound n l.edges since end
all_joins_are_round n l since mid end h f g =
    let a = two_spans l (IsJoinOf n l.edges since) mid end h (λ e c. source_is_row n l since h c.0 e c.1) f g in
    record { joins = a.joins; absent = a.absent; complete = λ x e c. a.complete e (x, c); ascending = a.ascending }

pub vertex_appends : (edges : List Born) (IsOne : Edge → Type 0) (u : Vertex) (blocks passed : List Block) → passed ≡ blocks → GivesJoins IsOne u blocks → (before after : List Edge) → AppendsBelow (row_of u.0 edges) u passed 65536 before after → All (λ k. k.label.0 < 65536) passed → AppendsJoins edges IsOne (λ v. v ≡ u.0) before after
vertex_appends edges IsOne u blocks passed same gives before after a few =
    record {
      new = a.new;
      behind = a.behind;
      are = joins_from edges IsOne u passed (subst (λ (l : List Block). GivesJoins IsOne u l) (sym same) gives) a.new a.are few;
    }

-- Edges that are added at the end: what is made stays made, and what is joined stays joined.
use Rattle.std.proofs.Common.{◌≡◌, ℕ, ◌+◌, ◌<◌, ◌≤◌, ◌⊎◌, List, [], ◌∷◌, ◌++◌, length, get_or, slice_get, Some, sym, ◌∙◌, ap, subst, inl, inr, refl, arith, append_assoc, append-nil, length-append, Result, Ok, Err, false, not, eqb}
use Rattle.std.specs.Prelude.{All, Contains, OnOk}
use Rattle.std.specs.List.{AllWithin}
use Rattle.std.proofs.lemmas.List.{get_or_append_left, get_or_default}
use Rattle.std.proofs.lemmas.List.Elements.{All-append, All-contains, All-nil, All-push, All-weaker, AllWithin-none, AllWithin-more, at_read, Contains-append_left, Contains-get_or, Contains-push}
use Rattle.std.proofs.lemmas.Bool.{cases_lt}
use Rattle.std.proofs.lemmas.Bool.Decides.{nat_tests}
use Rattle.std.proofs.lemmas.Option.{slice_get_within, slice_get-get_or, get_or_from_slice_get}
use Rattle.graph_words.specs.declared.types.Vertex.{Vertex}
use Rattle.graph_words.specs.declared.types.LabelId.{LabelId}
use Rattle.graph_words.specs.declared.types.Edge.{Edge}
use Rattle.graph_words.specs.Reach.{Graph, edge}
use Rattle.normal_law.specs.Closure.{Normal}
use Rattle.normal_law.specs.Closed.{Joins}
use Rattle.normal_law.proofs.ClosedLemmas.{Closure-join}
use Rattle.plain_closing.specs.Begin.{AddsEach, AddsOf, IsEdgeBetween}
use Rattle.plain_closing.specs.Joins.{HasJoins, HasJoinsBelow, HasJoinsWith, HasAllJoins, AddsMade, AddsNew, IsClosing, join_of}

pub AddsMade-none : (n : Normal) (edges : List Edge) → AddsMade n edges edges
AddsMade-none n edges = record { added = []; at_end = sym (append-nil edges); made = λ g all. All-nil (IsClosing n g) }

-- after edges were added all are in the closure
pub AddsMade-all : (n : Normal) (g : Graph) (before after : List Edge) → AddsMade n before after → All (IsClosing n g) before → All (IsClosing n g) after
AddsMade-all n g before after a all = subst (λ (l : List Edge). All (IsClosing n g) l) (sym a.at_end) (All-append (IsClosing n g) before a.added all (a.made g all))

pub AddsMade-then : (n : Normal) (a b c : List Edge) → AddsMade n a b → AddsMade n b c → AddsMade n a c
AddsMade-then n a b c p q =
    record {
      added = p.added ++ q.added;
      at_end = q.at_end ∙ ap (λ l. l ++ q.added) p.at_end ∙ append_assoc a p.added q.added;
      made = λ g all. All-append (IsClosing n g) p.added q.added (p.made g all) (q.made g (AddsMade-all n g a b p all));
    }

module _ (n : Normal) (a b : List Edge) (p : AddsMade n a b) where
  pub AddsMade-length : length a ≤ length b
  AddsMade-length = omega (arith, ap length p.at_end, length-append a p.added)

  pub AddsMade-keeps : (x : Edge) → Contains a x → Contains b x
  AddsMade-keeps x m = subst (λ (l : List Edge). Contains l x) (sym p.at_end) (Contains-append_left a p.added x m)

  -- an edge keeps its number
  pub AddsMade-at : (i : ℕ) (x : Edge) → slice_get a i ≡ Some x → slice_get b i ≡ Some x
  AddsMade-at i x e =
      let l = slice_get_within a i x e in
      ap (λ l. slice_get l i) p.at_end
      ∙ slice_get-get_or (a ++ p.added) i x (omega (arith, length-append a p.added))
      ∙ ap Some (get_or_append_left a p.added x i l ∙ get_or_from_slice_get a i x x e)

  -- an edge whose number is one of those before stood there before
  pub AddsMade-was_at : (i : ℕ) (x : Edge) → i < length a → slice_get b i ≡ Some x → slice_get a i ≡ Some x
  AddsMade-was_at i x l e =
      slice_get-get_or a i x l
      ∙ ap Some (sym (get_or_append_left a p.added x i l) ∙ ap (λ l. get_or l i x) (sym p.at_end) ∙ get_or_from_slice_get b i x x e)

  pub HasJoins-more : (x y : Edge) → HasJoins n a x y → HasJoins n b x y
  HasJoins-more x y h follows l j = AddsMade-keeps (join_of l x y) (h follows l j)

  pub HasJoinsBelow-more : (k : ℕ) → k ≤ length a → HasJoinsBelow n a k → HasJoinsBelow n b k
  HasJoinsBelow-more k within h i j x y li lj ei ej =
      HasJoins-more x y (h i j x y li lj (AddsMade-was_at i x (omega arith) ei) (AddsMade-was_at j y (omega arith) ej))

  pub HasJoinsWith-more : (m k : ℕ) → m < length a → k ≤ length a → HasJoinsWith n a m k → HasJoinsWith n b m k
  HasJoinsWith-more m k lm lk h j x y lj em ej =
      let both = h j x y lj (AddsMade-was_at m x lm em) (AddsMade-was_at j y (omega arith) ej) in
      (HasJoins-more x y both.0, HasJoins-more y x both.1)

-- the edge is the one at its number
same_at : (edges : List Edge) (i : ℕ) (x y : Edge) → slice_get edges i ≡ Some x → slice_get edges i ≡ Some y → x ≡ y
same_at edges i x y e f = sym (get_or_from_slice_get edges i x x e) ∙ get_or_from_slice_get edges i y x f

-- one more edge in front of which the edge stands, and behind
pub HasJoinsWith-step : (n : Normal) (edges : List Edge) (m k : ℕ) (x y : Edge) → HasJoinsWith n edges m k → slice_get edges m ≡ Some x → slice_get edges k ≡ Some y → HasJoins n edges x y → HasJoins n edges y x → HasJoinsWith n edges m (k + 1)
HasJoinsWith-step n edges m k x y h ex ey p q j v w lj ev ew = go (cases_lt j k)
  where
    go : (j < k) ⊎ (k ≤ j) → HasJoins n edges v w × HasJoins n edges w v
    go (inl l) = h j v w l ev ew
    go (inr l) =
        let here : j ≡ k = omega arith in
        let sv : x ≡ v = same_at edges m x v ex ev in
        let sw : y ≡ w = same_at edges k y w ey (subst (λ (i : ℕ). slice_get edges i ≡ Some w) here ew) in
        (subst (λ (e : Edge). HasJoins n edges e w) sv (subst (λ (e : Edge). HasJoins n edges x e) sw p), subst (λ (e : Edge). HasJoins n edges w e) sv (subst (λ (e : Edge). HasJoins n edges e x) sw q))

-- one more edge that has its joins with itself and those before it
pub HasJoinsBelow-step : (n : Normal) (edges : List Edge) (m : ℕ) → HasJoinsBelow n edges m → HasJoinsWith n edges m (m + 1) → HasJoinsBelow n edges (m + 1)
HasJoinsBelow-step n edges m below with_all i j x y li lj ei ej = go (cases_lt i m) (cases_lt j m)
  where
    go : (i < m) ⊎ (m ≤ i) → (j < m) ⊎ (m ≤ j) → HasJoins n edges x y
    go (inl p) (inl q) = below i j x y p q ei ej
    go (inr p) q =
        let here : i ≡ m = omega arith in
        (with_all j x y lj (subst (λ (k : ℕ). slice_get edges k ≡ Some x) here ei) ej).0
    go (inl p) (inr q) =
        let here : j ≡ m = omega arith in
        (with_all i y x li (subst (λ (k : ℕ). slice_get edges k ≡ Some y) here ej) ei).1

-- where all edges were walked, each join is there
pub HasAllJoins-from_below : (n : Normal) (edges : List Edge) (m : ℕ) → length edges ≤ m → HasJoinsBelow n edges m → HasAllJoins n edges
HasAllJoins-from_below n edges m whole h i d li j e lj =
    h i j (get_or edges i d) (get_or edges j e) (omega arith) (omega arith) (slice_get-get_or edges i d li) (slice_get-get_or edges j e lj)

-- the edge is there after it was added unless it was there
pub AddsNew-has : (before after : List Edge) (e : Edge) → AddsNew before after e → Contains after e
AddsNew-has before after e (inl a) = subst (λ (l : List Edge). Contains l e) (sym a.1) a.0
AddsNew-has before after e (inr a) = subst (λ (l : List Edge). Contains l e) (sym a.1) (Contains-push before e)

-- an edge that has P was added unless it was there
pub AddsOf-new : (P : Edge → Type 0) (before after : List Edge) (e : Edge) → P e → AddsNew before after e → AddsOf P before after
AddsOf-new P before after e p (inl a) = record { added = []; at_end = a.1 ∙ sym (append-nil before); each = All-nil P }
AddsOf-new P before after e p (inr a) = record { added = e ∷ []; at_end = a.1; each = All-push P [] e (All-nil P) p }

pub AddsOf-none : (P : Edge → Type 0) (edges : List Edge) → AddsOf P edges edges
AddsOf-none P edges = record { added = []; at_end = sym (append-nil edges); each = All-nil P }

pub AddsOf-then : (P : Edge → Type 0) (a b c : List Edge) → AddsOf P a b → AddsOf P b c → AddsOf P a c
AddsOf-then P a b c p q =
    record {
      added = p.added ++ q.added;
      at_end = q.at_end ∙ ap (λ l. l ++ q.added) p.at_end ∙ append_assoc a p.added q.added;
      each = All-append P p.added q.added p.each q.each;
    }

pub AddsOf-keeps : (P : Edge → Type 0) (a b : List Edge) → AddsOf P a b → (x : Edge) → Contains a x → Contains b x
AddsOf-keeps P a b p x m = subst (λ (l : List Edge). Contains l x) (sym p.at_end) (Contains-append_left a p.added x m)

-- Edges were added for the first k labels.
pub record IsAdding (u : Vertex) (labels : List LabelId) (v : Vertex) (k : ℕ) (before now : List Edge) : Type 0 where
  pub grown : AddsOf (IsEdgeBetween u labels v) before now
  pub has : AllWithin (λ (a : LabelId). Contains now (edge u a v)) labels 0 k

pub IsAdding-start : (u : Vertex) (labels : List LabelId) (v : Vertex) (edges : List Edge) → IsAdding u labels v 0 edges edges
IsAdding-start u labels v edges = record { grown = AddsOf-none (IsEdgeBetween u labels v) edges; has = AllWithin-none (λ (a : LabelId). Contains edges (edge u a v)) labels 0 }

pub IsAdding-step : (u : Vertex) (labels : List LabelId) (v : Vertex) (k : ℕ) (before now after : List Edge) (d : LabelId) → k < length labels → IsAdding u labels v k before now → AddsNew now after (edge u (get_or labels k d) v) → IsAdding u labels v (k + 1) before after
IsAdding-step u labels v k before now after d h g a =
    let l = get_or labels k d in
    let new = AddsOf-new (IsEdgeBetween u labels v) now after (edge u l v) (l, Contains-get_or labels k d h, refl) a in
    record {
      grown = AddsOf-then (IsEdgeBetween u labels v) before now after g.grown new;
      has =
          AllWithin-more (λ (x : LabelId). Contains after (edge u x v)) labels 0 k (λ i x le s. AddsOf-keeps (IsEdgeBetween u labels v) now after new (edge u (get_or labels i x) v) (g.has i x le s))
          (at_read labels (λ (x : LabelId). Contains after (edge u x v)) k l h (get_or_default labels k d l h) (AddsNew-has now after (edge u l v) a));
    }

-- vertices whose numbers are not told apart are one
pub same_vertex : (u v : Vertex) → false ≡ not (eqb u.0 v.0) → u ≡ v
same_vertex u v h =
    let same : u.0 ≡ v.0 = grind (arith, nat_tests) in
    ap (λ (n : ℕ). let w : Vertex = record { 0 = n } in w) same

-- what was added for the labels that two edges join to is made of these
pub AddsMade-joins : (n : Normal) (labels : List LabelId) (first second : Edge) (before after : List Edge) → Contains before first → Contains before second → first.dst ≡ second.src → ((a : LabelId) → Contains labels a → Joins n first.label second.label a) → AddsEach first.src labels second.dst before after → AddsMade n before after
AddsMade-joins n labels first second before after p q follows joins a =
    record {
      added = a.grown.added;
      at_end = a.grown.at_end;
      made = λ g all. All-weaker (IsEdgeBetween first.src labels second.dst) (IsClosing n g) (made g all) a.grown.added a.grown.each;
    }
  where
    made : (g : Graph) → All (IsClosing n g) before → (e : Edge) → IsEdgeBetween first.src labels second.dst e → IsClosing n g e
    made g all e b =
        let x = All-contains (IsClosing n g) before first all p in
        let y = subst (λ (w : Vertex). IsClosing n g (edge w second.label second.dst)) (sym follows) (All-contains (IsClosing n g) before second all q) in
        subst (IsClosing n g) (sym b.2) (Closure-join n g first.src first.dst second.dst first.label second.label b.0 x y (joins b.0 b.1))

-- and each of their joins is there
pub HasJoins-added : (n : Normal) (labels : List LabelId) (first second : Edge) (before after : List Edge) → ((a : LabelId) → Joins n first.label second.label a → Contains labels a) → AddsEach first.src labels second.dst before after → HasJoins n after first second
HasJoins-added n labels first second before after each a follows l j = All-contains (λ (x : LabelId). Contains after (join_of x first second)) labels l a.has (each l j)

-- an edge with a number is there
pub Contains-from_at : (edges : List Edge) (n : ℕ) (x : Edge) → slice_get edges n ≡ Some x → Contains edges x
Contains-from_at edges n x e = subst (λ (v : Edge). Contains edges v) (get_or_from_slice_get edges n x x e) (Contains-get_or edges n x (slice_get_within edges n x e))

-- The edge x, whose number is n, has its joins with the first k edges.
pub record IsJoiningWith (N : Normal) (n k : ℕ) (x : Edge) (before now : List Edge) : Type 0 where
  pub made : AddsMade N before now
  pub within : n < length before
  pub place : slice_get now n ≡ Some x
  pub joined : HasJoinsWith N now n k

pub IsJoiningWith-start : (N : Normal) (n : ℕ) (x : Edge) (edges : List Edge) → n < length edges → slice_get edges n ≡ Some x → IsJoiningWith N n 0 x edges edges
IsJoiningWith-start N n x edges within place =
    record { made = AddsMade-none N edges; within = within; place = place; joined = λ j v w l. absurd (omega arith) }

pub IsJoiningWith-has : (N : Normal) (n k : ℕ) (x : Edge) (before now : List Edge) → IsJoiningWith N n k x before now → Contains now x
IsJoiningWith-has N n k x before now g = Contains-from_at now n x g.place

pub IsJoiningWith-step : (N : Normal) (n k : ℕ) (x y : Edge) (before now after : List Edge) → k < n + 1 → IsJoiningWith N n k x before now → slice_get now k ≡ Some y → AddsMade N now after → HasJoins N after x y → HasJoins N after y x → IsJoiningWith N n (k + 1) x before after
IsJoiningWith-step N n k x y before now after l g at_k step p q =
    let long = AddsMade-length N before now g.made in
    record {
      made = AddsMade-then N before now after g.made step;
      within = g.within;
      place = AddsMade-at N now after step n x g.place;
      joined = HasJoinsWith-step N after n k x y (HasJoinsWith-more N now after step n k (omega (arith, g.within)) (omega (arith, g.within)) g.joined) (AddsMade-at N now after step n x g.place) (AddsMade-at N now after step k y at_k) p q;
    }

-- and last with itself
pub IsJoiningWith-end : (N : Normal) (n k : ℕ) (x : Edge) (before now after : List Edge) → n ≤ k → k ≤ n → IsJoiningWith N n k x before now → AddsMade N now after → HasJoins N after x x → HasJoinsWith N after n (n + 1)
IsJoiningWith-end N n k x before now after l m g step p =
    let here : k ≡ n = omega arith in
    let at_k = subst (λ (i : ℕ). slice_get now i ≡ Some x) (sym here) g.place in
    subst (λ (i : ℕ). HasJoinsWith N after n (i + 1)) here
    (IsJoiningWith-step N n k x x before now after (omega arith) g at_k step p p).joined

-- The first n edges have their joins with each other.
pub record IsWalking (N : Normal) (n : ℕ) (before now : List Edge) : Type 0 where
  pub made : AddsMade N before now
  pub within : n ≤ length now
  pub joined : HasJoinsBelow N now n

pub IsWalking-start : (N : Normal) (edges : List Edge) → IsWalking N 0 edges edges
IsWalking-start N edges = record { made = AddsMade-none N edges; within = omega arith; joined = λ i j x y l. absurd (omega arith) }

pub IsWalking-step : (N : Normal) (n : ℕ) (before now after : List Edge) → n < length now → IsWalking N n before now → AddsMade N now after → HasJoinsWith N after n (n + 1) → IsWalking N (n + 1) before after
IsWalking-step N n before now after l g step h =
    let long = AddsMade-length N now after step in
    record {
      made = AddsMade-then N before now after g.made step;
      within = omega arith;
      joined = HasJoinsBelow-step N after n (HasJoinsBelow-more N now after step n g.within g.joined) h;
    }

pub IsWalking-end : (N : Normal) (n : ℕ) (before now : List Edge) → length now ≤ n → IsWalking N n before now → HasAllJoins N now
IsWalking-end N n before now whole g = HasAllJoins-from_below N now n whole g.joined

-- what follows from two things that hold at Ok
pub on_ok_both : {T E A B C : Type 0} (r : Result T E) → (A → B → C) → OnOk r A → OnOk r B → OnOk r C
on_ok_both (Ok _) f a b = f a b
on_ok_both (Err _) f a b = tt

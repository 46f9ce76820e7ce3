-- How often edges in order list one edge.
use Rattle.std.proofs.Common.{◌≡◌, ◌⊎◌, inl, inr, ℕ, suc, Bool, true, false, cond, List, [], ◌∷◌, refl, sym, ◌∙◌, ap, subst, arith}
use Rattle.std.specs.Prelude.{Contains, filter, length}
use Rattle.std.proofs.lemmas.Bool.Decides.{nat_tests}
use Rattle.graph_words.specs.declared.types.Edge.{Edge}
use Rattle.graph_words.specs.declared.types.Born.{Born}
use Rattle.graph_words.specs.Reach.{IsBefore}
use Rattle.closing_machine.specs.Rounds.{born, HasEdge, IsOrdered}
use Rattle.closing_machine.proofs.Ordered.{ahead, before_one_way, behind, first_or_later, front, rest}
use Rattle.store_law.specs.Listed.{is_same}

abbrev make : ℕ → ℕ → ℕ → Edge
make u a v = record { src = record { 0 = u }; label = record { 0 = a }; dst = record { 0 = v } }

make_same : (a b c x y z : ℕ) → a ≡ x → b ≡ y → c ≡ z → make a b c ≡ make x y z
make_same a b c x y z s l d = cc

-- edges that the test takes for the same are one
pub same_edge : (x y : Edge) → is_same x y ≡ true → x ≡ y
same_edge x y h =
    let s : x.src.0 ≡ y.src.0 = grind (arith, nat_tests) in
    let l : x.label.0 ≡ y.label.0 = grind (arith, nat_tests) in
    let d : x.dst.0 ≡ y.dst.0 = grind (arith, nat_tests) in
    make_same x.src.0 x.label.0 x.dst.0 y.src.0 y.label.0 y.dst.0 s l d

same_itself : (x : Edge) → is_same x x ≡ true
same_itself x = grind (arith, nat_tests)

abbrev IsBornBefore : Born → Born → Type 0
IsBornBefore x y = IsBefore x.edge y.edge

one_way : (x y : Born) → IsBornBefore x y → IsBornBefore y x → ⊥
one_way x y = before_one_way x.edge y.edge

abbrev times_in : List Born → Edge → ℕ
times_in bs e = length (filter (λ b. is_same b.edge e) bs)

-- Edges in order list an edge once, or not at all.
abbrev pub ListsOnce : List Born → Edge → Type 0
ListsOnce bs e = ((times_in bs e ≡ 1) × HasEdge bs e) ⊎ ((times_in bs e ≡ 0) × (HasEdge bs e → ⊥))

pub lists_once : (bs : List Born) (e : Edge) → IsOrdered bs → ListsOnce bs e
lists_once [] e ordered = inr (refl, λ h. let lt = h.1.1 in omega arith)
lists_once (b ∷ bs) e ordered = go (is_same b.edge e) refl (lists_once bs e (rest IsBornBefore one_way b bs ordered))
  where
    count_is : (t : Bool) → is_same b.edge e ≡ t → times_in (b ∷ bs) e ≡ length (cond t (b ∷ filter (λ x. is_same x.edge e) bs) (filter (λ x. is_same x.edge e) bs))
    count_is t h = ap (λ v. length (cond v (b ∷ filter (λ x. is_same x.edge e) bs) (filter (λ x. is_same x.edge e) bs))) h

    not_it : is_same b.edge e ≡ false → (has : HasEdge (b ∷ bs) e) → (HasEdge bs e → ⊥) → ⊥
    not_it h has none = at (first_or_later IsBornBefore one_way b bs (born e has.0) has.1)
      where
        at : (b ≡ born e has.0) ⊎ Contains bs (born e has.0) → ⊥
        at (inl q) = let yes = ap (λ (x : Born). is_same x.edge e) q ∙ same_itself e in let no = sym h ∙ yes in absurd (cc)
        at (inr m) = none (has.0, m)

    go : (t : Bool) → is_same b.edge e ≡ t → ListsOnce bs e → ListsOnce (b ∷ bs) e
    go true h (inl once) =
        let x = born e once.1.0 in
        let same = same_edge b.edge e h in
        let before : IsBefore b.edge e = ahead IsBornBefore one_way b bs x ordered once.1.1 in
        let turned : IsBefore e b.edge = subst (λ (y : Edge). IsBefore e y) (sym same) (subst (λ (y : Edge). IsBefore y e) same before) in
        absurd (before_one_way b.edge e before turned)
    go true h (inr none) =
        inl (count_is true h ∙ ap suc none.0, (b.birth, subst (λ (y : Edge). Contains (b ∷ bs) (born y b.birth)) (same_edge b.edge e h) (front IsBornBefore one_way b bs)))
    go false h (inl once) =
        inl (count_is false h ∙ once.0, (once.1.0, behind IsBornBefore one_way b bs (born e once.1.0) once.1.1))
    go false h (inr none) = inr (count_is false h ∙ none.0, λ has. not_it h has none.1)
